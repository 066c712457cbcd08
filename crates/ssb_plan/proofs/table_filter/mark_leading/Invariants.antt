use Rattle.std.proofs.Common.{◌-◌, Bool, ℕ, take, true}
use Rattle.std.specs.List.{All, list_all}
use Rattle.ssb_sets.specs.Marks.{AreMarked}
use Rattle.ssb_plan.specs.Filters.{SaysSame}
use Rattle.ssb_plan.specs.declared.column_filter.ColumnFilter.{ColumnFilter}
use Rattle.ssb_plan.proofs.table_filter.mark_leading.Given as goal

abbrev pub invariant-loop-i : goal.invariant-loop-i
invariant-loop-i l = (p : ColumnFilter → ℕ → Bool) → All (SaysSame l.table p) l.columns → AreMarked (λ r. true) l.from (l.end - l.from) l.initial.marks.words → AreMarked (λ r. list_all (λ f. p f r) (take l.i l.columns)) l.from (l.end - l.from) l.marks.words
