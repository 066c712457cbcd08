use Rattle.std.proofs.Common.{arith}
use Rattle.ssb_groups.proofs.NumberFacts.{numbers-of-kind}
use Rattle.ssb_groups.proofs.numbers.copy_numbers.Goals as goal

pub returns-clause-kinds : goal.returns-clause-kinds
returns-clause-kinds c =
    let l = c.loop-at in
    let many = l.invariant.many in
    numbers-of-kind l.numbers l.at (omega (arith, many, c.loop-at-test.false)) l.invariant.range
