-- Files, their sections and joined sources may go to other threads.
use denote.RattleType.{RattleType}
use denote.Param.Send.{IsSend, sendable}
use denote.Param.SendFields.{as_row_send, declared_send}
use Rattle.std.proofs.Crossing.{crosses}
use Rattle.std.specs.contracts.fs.File as File
use Rattle.std.specs.contracts.io.traits.Take as Take
use Rattle.std.specs.contracts.snapshot.Snapshot as Snapshot
use Rattle.ssb_records.specs.contracts.history.History as History
use Rattle.ssb_records.specs.contracts.reader.In as In
use Rattle.ssb_lanes.specs.contracts.joined.Joined as Joined
use Rattle.ssb_lanes.specs.contracts.lane.Lane as Lane
use Rattle.ssb_lanes.proofs.lane.Reading.TheSendSync as reading

pub file_send : IsSend File.the_row
file_send = search (crosses, sendable) depth 20

pub take_send : (T : RattleType) → IsSend T → IsSend (Take.the_row T)
take_send T s = search (crosses, sendable) depth 20

snapshot_send : (T : RattleType) → IsSend T → IsSend (Snapshot.the_row T)
snapshot_send T s = search (crosses, sendable) depth 20

history_send : (T : RattleType) → IsSend T → IsSend (History.the_row T)
history_send T s = search (crosses, sendable) depth 20

pub in_send : (T : RattleType) (r : _) → IsSend T → IsSend (In.the_row T r)
in_send T r s = search (snapshot_send, history_send, crosses, sendable) depth 20

any_snapshot_send : (T : RattleType) → IsSend (Snapshot.the_row T)
any_snapshot_send T = search (crosses, sendable) depth 20

pub lane_send : (S : RattleType) → IsSend S → IsSend (Lane.the_row S)
lane_send S s = declared_send (Lane.the_type S) (search (sendable) depth 20, (search (any_snapshot_send, as_row_send, sendable) depth 20, (search (reading.the_send, as_row_send, sendable) depth 20, tt)))

pub joined_send : (S : RattleType) (r : _) → IsSend S → IsSend (Joined.the_row S r)
joined_send S r s = search (lane_send, history_send, crosses, sendable) depth 20
