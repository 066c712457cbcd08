use Rattle.std.proofs.Common.{◌≤ℤ◌, All, take}
use Rattle.ssb_packed.proofs.numbers.bounds.Given as goal

abbrev pub invariant-loop-number : goal.invariant-loop-number
invariant-loop-number l = All (λ n. (l.least ≤ℤ n) × (n ≤ℤ l.greatest)) (take l.number-index l.numbers)
