-- Queues of lanes may be shared by threads, and their passes go to other threads, where sources may.
use denote.Builtin.{unit}
use denote.RattleType.{RattleType}
use denote.Param.Send.{IsSend, IsSync, sendable}
use denote.Param.SendFields.{as_row_send, as_row_sync, declared_send, declared_sync}
use Rattle.std.proofs.Crossing.{crosses, frees, send, sync, Vec-send}
use Rattle.std.specs.contracts.alloc.Global as Heap
use Rattle.std.specs.contracts.impls.GlobalAllocator.TheImpl.{ghosts}
use Rattle.std.specs.contracts.option.Option as Option
use Rattle.std.specs.contracts.vec.Vec as Vec
use Rattle.atomic_table.specs.contracts.owned.Table as Table
use Rattle.atomic_table.specs.contracts.shared.Seat as Seat
use Rattle.atomic_table.specs.declared.shared.TableRule.{Ghosts}
use Rattle.atomic_table.proofs.send_lease.SendLease.TheSendSync as lease
use Rattle.atomic_table.proofs.shared.Seat.TheSendSync as seat
use Rattle.atomic_table.proofs.shared.Shared.TheSendSync as shared
use Rattle.crossbeam_queue.specs.contracts.array_queue.Doing as Doing
use Rattle.crossbeam_queue.specs.contracts.array_queue.Slotted as Slotted
use Rattle.std.specs.contracts.snapshot.Snapshot as Snapshot
use Rattle.ssb_lanes.specs.contracts.berth.Known as Known
use Rattle.ssb_lanes.specs.contracts.berth.Laid as Laid
use Rattle.ssb_lanes.proofs.Crossing.{lane_send}

abbrev Slot : RattleType → RattleType
Slot S = Option.the_row (Laid.the_row S)

abbrev Turn : RattleType → RattleType
Turn S = Doing.the_row (Laid.the_row S) (Option.the_row (Known.the_row S))

snapshot_send : (T : RattleType) → IsSend (Snapshot.the_row T)
snapshot_send T = search (crosses, sendable) depth 20

laid_send : (S : RattleType) → IsSend S → IsSend (Laid.the_row S)
laid_send S s = declared_send (Laid.the_type S) (search (lane_send, as_row_send, sendable) depth 20, (search (snapshot_send, as_row_send, sendable) depth 20, tt))

slot_send : (S : RattleType) → IsSend S → IsSend (Slot S)
slot_send S s = search (laid_send, sendable) depth 20

pub hand_send : (S : RattleType) → IsSend S → IsSend (Vec.the_row (Seat.the_row (Slot S) (Turn S)) Heap.the_row ghosts)
hand_send S s = Vec-send _ (seat.the_send (Slot S) (Turn S) (slot_send S s))

module _ (S : RattleType) (Q : RattleType) (g : Ghosts Q.Denot (Slot S).Denot (Turn S).Denot unit.Denot) (s : IsSend S) where
  table_sync : IsSync (Table.the_row (Slot S) (Turn S) unit Q Heap.the_row g ghosts)
  table_sync =
      declared_sync (Table.the_type (Slot S) (Turn S) unit Q Heap.the_row g ghosts) (
        shared.the_sync (Slot S) (Turn S) unit Q g (slot_send S s),
        (
          search (as_row_sync, sendable) depth 20,
          (search (as_row_sync, sendable) depth 20, (lease.the_sync _ Heap.the_row ghosts send frees, (lease.the_sync (Slot S) Heap.the_row ghosts send frees, (sync, tt)))),
        ),
      )

  pub berth_sync : IsSync (Slotted.the_row (Slot S) (Turn S) Q Heap.the_row g ghosts)
  berth_sync = declared_sync (Slotted.the_type (Slot S) (Turn S) Q Heap.the_row g ghosts) (table_sync, (search (as_row_sync, sendable) depth 20, (search (as_row_sync, sendable) depth 20, tt)))
