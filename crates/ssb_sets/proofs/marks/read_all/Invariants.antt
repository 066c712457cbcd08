use Rattle.std.proofs.Common.{ℕ, ◌<◌, get_or, map, pos}
use Rattle.ssb_sets.specs.Values.{IsWithin}
use Rattle.ssb_sets.proofs.marks.read_all.Given as goal

abbrev pub invariant-loop-i : goal.invariant-loop-i
invariant-loop-i g l = (k : ℕ) → k < l.i → IsWithin g.T.Number.bounds (get_or (map g.T.Number.wide l.numbers) k (pos 0))
