use Rattle.std.proofs.Common.{refl}
use Rattle.ssb_lanes.proofs.PartTaking.{part-none}
use Rattle.ssb_lanes.proofs.part.Part.new.Goals as goal

pub returns-clause-part : goal.returns-clause-part
returns-clause-part c = part-none _ c.in_ok-under.ensures.stands c.new.ensures.items refl c.new-2.ensures.items
