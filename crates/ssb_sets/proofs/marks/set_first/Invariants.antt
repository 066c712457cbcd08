use Rattle.std.proofs.Common.{◌≡◌, ◌*◌, ◌<◌, ℕ, ltb}
use Rattle.ssb_sets.specs.Marks.{is_marked}
use Rattle.ssb_sets.proofs.marks.set_first.Given as goal

abbrev pub invariant-loop-at : goal.invariant-loop-at
invariant-loop-at l = (i : ℕ) → i < 64 * l.at → is_marked l.words i ≡ ltb i l.count
