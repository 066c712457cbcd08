use Rattle.std.proofs.Common.{◌≡◌, ◌<◌, Bool, ℕ, take}
use Rattle.std.specs.List.{All, filter, list_all}
use Rattle.ssb_cells.specs.Tables.{rows_in}
use Rattle.ssb_plan.specs.Filters.{SaysSame}
use Rattle.ssb_plan.specs.declared.column_filter.ColumnFilter.{ColumnFilter}
use Rattle.ssb_plan.proofs.table_filter.keep_all.Given as goal

abbrev pub invariant-loop-filter : goal.invariant-loop-filter
invariant-loop-filter l =
    record {
      there : All (λ r. r < rows_in l.table) l.rows.items;
      left : (p : ColumnFilter → ℕ → Bool) → All (SaysSame l.table p) l.columns → l.rows.items ≡ filter (λ r. list_all (λ f. p f r) (take l.filter-index l.columns)) l.initial.rows.items;
    }
