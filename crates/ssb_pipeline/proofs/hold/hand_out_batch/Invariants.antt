use Rattle.ssb_pipeline.proofs.Batches.{Handing}
use Rattle.ssb_pipeline.proofs.hold.hand_out_batch.Given as goal

abbrev pub invariant-loop : goal.invariant-loop
invariant-loop g l = Handing l.tickets.items l.counter l.initial.part l.part
