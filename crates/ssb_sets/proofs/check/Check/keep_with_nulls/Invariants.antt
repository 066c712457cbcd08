use Rattle.std.proofs.Common.{ℕ, ◌<◌, ◌||◌, get_or, pos}
use Rattle.std.proofs.lemmas.List.Filters.{FiltersInPlace}
use Rattle.ssb_packed.specs.Lent.{flag_at}
use Rattle.ssb_sets.specs.Checks.{passes}
use Rattle.ssb_sets.specs.Passing.{passes_at}
use Rattle.ssb_sets.specs.Values.{IsWithin, eight_byte_bounds, values_in}
use Rattle.ssb_sets.proofs.check.Check.keep_with_nulls.Given as goal

abbrev pub invariant-loop-i : goal.invariant-loop-i
invariant-loop-i l =
    record {
      front : FiltersInPlace (λ r. flag_at l.nulls r || passes_at (passes l.self) (values_in l.values) r) l.initial.rows.items l.rows.items l.left l.i;
      within : (k : ℕ) → k < l.i → IsWithin eight_byte_bounds (get_or (values_in l.values) (get_or l.initial.rows.items k 0) (pos 0));
    }
