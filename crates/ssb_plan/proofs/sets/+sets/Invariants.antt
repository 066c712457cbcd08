use Rattle.std.proofs.Common.{take}
use Rattle.ssb_plan.proofs.SetFacts.{TellMany}
use Rattle.ssb_plan.proofs.sets.+sets.Given as goal

abbrev pub invariant-set_of_all-loop-part : goal.invariant-set_of_all-loop-part
invariant-set_of_all-loop-part l = TellMany l.x.name l.x.values.now l.by (take l.part-index l.parts) l.null l.sets.items
