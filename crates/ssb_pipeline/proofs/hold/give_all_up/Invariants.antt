use Rattle.std.proofs.Common.{length}
use Rattle.ssb_pipeline.proofs.Batches.{IsGivingUp}
use Rattle.ssb_pipeline.proofs.hold.give_all_up.Given as goal

abbrev pub invariant-loop-ticket : goal.invariant-loop-ticket
invariant-loop-ticket l = IsGivingUp l.initial.tickets.items l.tickets.items l.initial.part l.part

abbrev pub decreases-loop-ticket : goal.decreases-loop-ticket
decreases-loop-ticket l = length l.tickets.items
