use Rattle.std.proofs.Common.{ℕ, ◌<◌, get_or, map, pos}
use Rattle.std.proofs.lemmas.List.Filters.{FiltersInPlace}
use Rattle.ssb_sets.specs.Passing.{passes_at}
use Rattle.ssb_sets.specs.Values.{IsWithin}
use Rattle.ssb_sets.proofs.kernel.next_rows.Given as goal

abbrev pub invariant-loop-i : goal.invariant-loop-i
invariant-loop-i g l =
    record {
      front : FiltersInPlace (passes_at (g.A.Asks.says l.asked) (map g.T.Number.wide l.numbers)) l.initial.rows l.rows l.left l.i;
      within : (k : ℕ) → k < l.i → IsWithin g.T.Number.bounds (get_or (map g.T.Number.wide l.numbers) (get_or l.initial.rows k 0) (pos 0));
    }
