use Rattle.std.proofs.Common.{◌≡◌}
use Rattle.ssb_packed.specs.Narrow.{left, numbers_of}
use Rattle.ssb_packed.proofs.numbers.Numbers.extend.Given as goal

abbrev pub invariant-loop-self : goal.invariant-loop-self
invariant-loop-self l = numbers_of l.self-inside.kept ≡ l.fn.self

abbrev pub decreases-loop-self : goal.decreases-loop-self
decreases-loop-self l = left l.self-inside.kept
