use Rattle.std.proofs.Common.{ap, arith, length}
use Rattle.ssb_lanes.proofs.sections.division_of.Goals as goal

pub returns-in-Ok-clause-unread : goal.returns-in-Ok-clause-unread
returns-in-Ok-clause-unread g c = c.divide.ensures.unread

pub returns-in-Ok-clause-divided : goal.returns-in-Ok-clause-divided
returns-in-Ok-clause-divided g c = c.divide.ensures.divided

pub returns-in-Ok-clause-alone : goal.returns-in-Ok-clause-alone
returns-in-Ok-clause-alone g c = λ few. c.divide.ensures.alone (omega (arith, few, c.min.ensures))

pub returns-in_default-clause-unread : goal.returns-in_default-clause-unread
returns-in_default-clause-unread g c = rw c.undivided.ensures.alone (λ k d below. absurd (omega (arith, below)))

pub returns-in_default-clause-divided : goal.returns-in_default-clause-divided
returns-in_default-clause-divided g c = c.undivided.ensures.divided

pub returns-in_default-clause-alone : goal.returns-in_default-clause-alone
returns-in_default-clause-alone g c = λ few. let none = ap length c.undivided.ensures.alone in omega (arith, none, c.undivided.result.1.ok.0)
