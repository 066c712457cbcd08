use Rattle.std.proofs.Common.{get_or, subst, arith}
use Rattle.ssb_pipeline.specs.Work.{IsWorked}
use denote.Param.Send.{sendable}
use Rattle.ssb_pipeline.proofs.CrossingParts.{parts_sync, pass_send}
use Rattle.std.proofs.lemmas.Grind.{common_steps}
use Rattle.ssb_pipeline.proofs.worker.run_batches.Goals as goal

pub for_each_mut-requires-send-T : goal.for_each_mut-requires-send-T
for_each_mut-requires-send-T g c κs within = search (pass_send, sendable) depth 20

pub for_each_mut-requires-sync-F : goal.for_each_mut-requires-sync-F
for_each_mut-requires-sync-F g c κs within = search (parts_sync, sendable) depth 20

pub returns : goal.returns
returns g c =
    λ i d lt.
    let k = (c.for_each_mut.ensures i d lt).1 in
    subst (IsWorked c.args.parts.now (get_or c.args.passes.now i d)) k.left (subst (λ p. IsWorked c.args.parts.now p k.after_call.now) k.argument_is k.call)

pub for_each_mut-requires-clause-accepts : goal.for_each_mut-requires-clause-accepts
for_each_mut-requires-clause-accepts g c = grind (arith, common_steps)
