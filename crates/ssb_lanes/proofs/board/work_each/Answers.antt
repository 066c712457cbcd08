use denote.Param.Send.{sendable}
use Rattle.std.proofs.Crossing.{crosses}
use Rattle.ssb_lanes.proofs.CrossingBerths.{berth_sync, hand_send}
use Rattle.ssb_lanes.proofs.lane.ReadContext.TheSendSync as context
use Rattle.ssb_lanes.proofs.board.work_each.Goals as goal

pub for_each_mut-requires-send-T : goal.for_each_mut-requires-send-T
for_each_mut-requires-send-T g c κs within = search (hand_send, sendable) depth 20

pub for_each_mut-requires-sync-F : goal.for_each_mut-requires-sync-F
for_each_mut-requires-sync-F g c κs within = search (berth_sync, context.the_sync, crosses, sendable) depth 30
