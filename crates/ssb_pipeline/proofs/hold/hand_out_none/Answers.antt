use Rattle.std.proofs.Common.{[], arith}
use Rattle.ssb_pipeline.proofs.Batches.{handed-ended, handed-lost, handing-none}
use Rattle.ssb_pipeline.proofs.hold.hand_out_none.Goals as goal

pub returns-in-Some : goal.returns-in-Some
returns-in-Some g c =
    let p = c.args.part.now in
    handed-lost [] 0 p p c.hand_out.new.self c.in-Some.ticket (handing-none p) c.in-Some.ensures.hands c.lawful.ensures c.give_up.new.self c.give_up.ensures.gives_up 0 (omega arith)

pub returns-in_default : goal.returns-in_default
returns-in_default g c =
    let p = c.args.part.now in
    handed-ended [] 0 0 p p (omega arith) (handing-none p) c.hand_out.new.self c.in_default.ensures.hands
