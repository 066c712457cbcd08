use denote.Param.Send.{sendable}
use Rattle.std.proofs.Common.{arith, subst}
use Rattle.std.proofs.Crossing.{crosses}
use Rattle.std.specs.List.{All}
use Rattle.std.proofs.lemmas.List.Elements.{All-head, All-tail}
use Rattle.ssb_load.specs.Subject.{table}
use Rattle.ssb_lanes.specs.Berth.{IsHand}
use Rattle.ssb_lanes.proofs.CrossingBerths.{berth_sync, hand_send}
use Rattle.ssb_lanes.proofs.lane.ReadContext.TheSendSync as context
use Rattle.ssb_lanes.proofs.board.work_all.Goals as goal

pub own-requires : goal.own-requires
own-requires g c κs within =
    let Ready : _ → Type 0 = λ h. IsHand (table c.args.context.now.rules.now c.args.context.now.max_rows) c.args.berths.now h.items in
    let all = subst (All Ready) c.in-Some.ensures.cases.0 c.requires.hands in
    (within.0, (within.1.0, (within.1.1, (All-head Ready c.in-Some.first.now c.in-Some.others.now all, c.requires.beside))))

pub join_mut-requires-send-F : goal.join_mut-requires-send-F
join_mut-requires-send-F g c κs within = search (berth_sync, hand_send, context.the_sync, crosses, sendable) depth 30

pub join_mut-requires-after_bounds : goal.join_mut-requires-after_bounds
join_mut-requires-after_bounds g c κs within =
    let Ready : _ → Type 0 = λ h. IsHand (table c.args.context.now.rules.now c.args.context.now.max_rows) c.args.berths.now h.items in
    let all = subst (All Ready) c.in-Some.ensures.cases.0 c.requires.hands in
    let some = c.if-count-eq0.false in (
      (All-head Ready c.in-Some.first.now c.in-Some.others.now all, c.requires.beside),
      ((search sendable depth 20, search sendable depth 20, omega (arith, some), All-tail Ready c.in-Some.first.now c.in-Some.others.now all), (search sendable depth 20, search sendable depth 20)),
    )
