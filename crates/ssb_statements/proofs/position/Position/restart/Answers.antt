use Rattle.std.proofs.Common.{ap, length}
use Rattle.ssb_statements.proofs.Standing.{line-first, none-in, starts}
use Rattle.ssb_statements.proofs.position.Position.restart.Goals as goal

pub invariant_of-self : goal.invariant_of-self
invariant_of-self c =
    let k = starts c.new-self.result.items c.reset.new.self _ c.new-self.ensures (ap length c.new-self-2.ensures) c.reset.ensures in
    record { few = k.few; known = k.known; head = line-first c.new-self.result.items c.new-self.ensures; none = none-in c.new-self.result.items c.new-self.ensures }
