use Rattle.std.proofs.Common.{ap, length}
use Rattle.ssb_statements.proofs.Standing.{line-first, none-in, starts}
use Rattle.ssb_statements.proofs.position.Position.new.Goals as goal

pub invariant_of-result : goal.invariant_of-result
invariant_of-result c =
    let k = starts c.new-2.result.items c.new.result _ c.new-2.ensures (ap length c.new-3.ensures) c.new.ensures in
    record { few = k.few; known = k.known; head = line-first c.new-2.result.items c.new-2.ensures; none = none-in c.new-2.result.items c.new-2.ensures }
