-- Parts and passes may go to other threads, and parts be shared by them.
use denote.Builtin.{unit}
use denote.RattleType.{RattleType}
use denote.Param.Send.{IsSend, IsSync, sendable, view_send, view_sync}
use denote.Param.SendFields.{as_row_send, as_row_sync, declared_send, declared_sync}
use Rattle.std.proofs.Crossing.{crosses, frees, send, sync, Arc-send, Arc-sync, Vec-send, Vec-sync}
use Rattle.std.specs.contracts.alloc.Global as Heap
use Rattle.std.specs.contracts.impls.GlobalAllocator.TheImpl.{ghosts}
use Rattle.std.specs.contracts.option.Option as Option
use Rattle.atomic_table.specs.contracts.owned.Table as Table
use Rattle.atomic_table.specs.declared.shared.TableRule.{Ghosts}
use Rattle.atomic_table.proofs.send_lease.SendLease.TheSendSync as lease
use Rattle.atomic_table.proofs.shared.Seat.TheSendSync as seat
use Rattle.atomic_table.proofs.shared.Shared.TheSendSync as shared
use Rattle.crossbeam_queue.specs.contracts.array_queue.Doing as Doing
use Rattle.crossbeam_queue.specs.contracts.array_queue.Slotted as Slotted
use Rattle.crossbeam_queue.specs.contracts.array_queue.Turns as Turns
use Rattle.crossbeam_queue.specs.contracts.array_queue.TurnsTableRuleOptionDoingUnit.TheImpl as turns
use Rattle.ssb_groups.specs.contracts.columns.Columns as Columns
use Rattle.ssb_groups.specs.contracts.columns.Columns.TheInside as InColumns
use Rattle.ssb_groups.specs.contracts.joining.Joining as Joining
use Rattle.ssb_groups.specs.contracts.groups.Groups as Groups
use Rattle.ssb_groups.specs.contracts.groups.Groups.TheInside as InGroups
use Rattle.ssb_groups.specs.contracts.keys.Keys as Keys
use Rattle.ssb_groups.specs.contracts.kept.KeptTotal as Total
use Rattle.ssb_groups.specs.contracts.room.Room as Room
use Rattle.ssb_groups.specs.contracts.store.Store as Store
use Rattle.ssb_groups.specs.contracts.store.Store.TheInside as InStore
use Rattle.ssb_groups.specs.contracts.table.GroupTable as Groups_table
use Rattle.ssb_job.specs.contracts.job.Job as Job
use Rattle.ssb_keys.specs.contracts.dense.DenseKeys as DenseKeys
use Rattle.ssb_keys.specs.contracts.dense.DenseKeys.TheInside as InDense
use Rattle.ssb_keys.specs.contracts.domain.Domain as Domain
use Rattle.ssb_keys.specs.contracts.guesses.Guesses as Guesses
use Rattle.ssb_keys.specs.contracts.hashed.HashedKeys as HashedKeys
use Rattle.ssb_keys.specs.contracts.hashed.HashedKeys.TheInside as InHashed
use Rattle.ssb_keys.specs.contracts.key_set.KeySet as KeySet
use Rattle.ssb_plan.specs.contracts.input.ColumnRef as ColumnRef
use Rattle.ssb_pipeline.specs.contracts.part.Part as Part
use Rattle.ssb_pipeline.specs.contracts.part.Part.TheInside as InPart
use Rattle.ssb_pipeline.specs.contracts.line.Knowledge as Knowledge
use Rattle.ssb_pipeline.specs.contracts.line.Law as Law
use Rattle.ssb_pipeline.specs.contracts.line.LawProtocolPartKnowledge.TheImpl as law
use Rattle.ssb_pipeline.specs.contracts.parts.Parts as Parts
use Rattle.ssb_pipeline.specs.contracts.parts.Parts.TheInside as InParts
use Rattle.ssb_pipeline.specs.contracts.parts.PartsPass as PartsPass
use Rattle.ssb_pipeline.specs.contracts.parts.PartsPass.TheInside as InPass
use Rattle.std.proofs.MapsCrossingOver as over
use Rattle.ssb_pipeline.proofs.Crossing.{Crosses, declared_crosses, variants_crosses, view_crosses}
use Rattle.ssb_pipeline.proofs.CrossingJobs.{job, ranks, tables}

guesses : Crosses Guesses.the_row
guesses = (search (crosses, sendable) depth 20, search (crosses, sendable) depth 20)

dense : Crosses DenseKeys.the_row
dense = view_crosses InDense.the_row _ _ _ _ (declared_crosses InDense.the_type ((search (as_row_send, crosses, sendable) depth 20, search (as_row_sync, crosses, sendable) depth 20), ((search (as_row_send, crosses, sendable) depth 20, search (as_row_sync, crosses, sendable) depth 20), tt)))

hashed : Crosses HashedKeys.the_row
hashed = view_crosses InHashed.the_row _ _ _ _ (declared_crosses InHashed.the_type ((search (over.crosses, crosses, sendable) depth 40, search (over.crosses, crosses, sendable) depth 40), (guesses, tt)))

key_set : Crosses KeySet.the_row
key_set = variants_crosses KeySet.enum ((dense, tt), ((hashed, tt), tt))

keys_send : IsSend Keys.the_row
keys_send = declared_send Keys.the_type (key_set.0, (search (crosses, sendable) depth 40, tt))

total_send : IsSend Total.the_row
total_send = search (crosses, sendable) depth 20

room_send : IsSend Room.the_row
room_send = search (crosses, sendable) depth 20

table_send : IsSend Groups_table.the_row
table_send = declared_send Groups_table.the_type (search (keys_send, crosses, sendable) depth 40, (search (total_send, crosses, sendable) depth 20, tt))

store_send : IsSend Store.the_row
store_send =
    view_send InStore.the_row _ _ _ _ (declared_send InStore.the_type (
      search (crosses, sendable) depth 20,
      (
        table_send,
        (search (as_row_send, sendable) depth 20, (search (as_row_send, sendable) depth 20, tt)),
      ),
    ))

column_ref_send : IsSend ColumnRef.the_row
column_ref_send = search (crosses, sendable) depth 20

joining_send : IsSend Joining.the_row
joining_send = search (column_ref_send, crosses, sendable) depth 20

domain_send : IsSend Domain.the_row
domain_send = search (as_row_send, crosses, sendable) depth 20

columns_send : IsSend Columns.the_row
columns_send =
    view_send InColumns.the_row _ _ _ _ (declared_send InColumns.the_type (search (crosses, sendable) depth 20, (tables.0, (search (column_ref_send, as_row_send, crosses, sendable) depth 20, (search (domain_send, as_row_send, crosses, sendable) depth 20, (search (joining_send, as_row_send, crosses, sendable) depth 20, (ranks.0, tt)))))))

groups_send : IsSend Groups.the_row
groups_send =
    view_send InGroups.the_row _ _ _ _ (declared_send InGroups.the_type (search (as_row_send, crosses, sendable) depth 20, (columns_send, (store_send, (room_send, (search (crosses, sendable) depth 20, tt))))))

pub part_send : IsSend Part.the_row
part_send =
    let shared_job = Arc-send Job.the_row job.0 job.1 in
    view_send InPart.the_row _ _ _ _ (declared_send InPart.the_type (
      search (as_row_send, crosses, sendable) depth 20,
      (
        shared_job,
        (
          search (as_row_send, sendable) depth 20,
          (
            search (as_row_send, sendable) depth 20,
            (
              search (as_row_send, sendable) depth 20,
              (
                search (as_row_send, sendable) depth 20,
                (
                  search (as_row_send, sendable) depth 20,
                  (
                    search (as_row_send, crosses, sendable) depth 20,
                    (search (as_row_send, sendable) depth 20, (search (as_row_send, crosses, sendable) depth 20, (search (as_row_send, sendable) depth 20, (groups_send, tt)))),
                  ),
                ),
              ),
            ),
          ),
        ),
      ),
    ))

abbrev Slot : RattleType
Slot = Option.the_row Part.the_row

abbrev Turn : RattleType
Turn = Doing.the_row Part.the_row Knowledge.the_row

slot_send : IsSend Slot
slot_send = search (part_send, sendable) depth 20

pub pass_send : IsSend PartsPass.the_row
pass_send = view_send InPass.the_row _ _ _ _ (declared_send InPass.the_type (Vec-send _ (seat.the_send Slot Turn slot_send), tt))

-- the queue of one part
module _ (Q : RattleType) (g : Ghosts Q.Denot Slot.Denot Turn.Denot unit.Denot) where
  table_sync : IsSync (Table.the_row Slot Turn unit Q Heap.the_row g ghosts)
  table_sync =
      declared_sync (Table.the_type Slot Turn unit Q Heap.the_row g ghosts) (
        shared.the_sync Slot Turn unit Q g slot_send,
        (
          search (as_row_sync, sendable) depth 20,
          (search (as_row_sync, sendable) depth 20, (lease.the_sync _ Heap.the_row ghosts send frees, (lease.the_sync Slot Heap.the_row ghosts send frees, (sync, tt)))),
        ),
      )

  line_sync : IsSync (Slotted.the_row Slot Turn Q Heap.the_row g ghosts)
  line_sync = declared_sync (Slotted.the_type Slot Turn Q Heap.the_row g ghosts) (table_sync, (search (as_row_sync, sendable) depth 20, (search (as_row_sync, sendable) depth 20, tt)))

pub parts_sync : IsSync Parts.the_row
parts_sync =
    let shared_job = Arc-sync Job.the_row job.0 job.1 in
    view_sync InParts.the_row _ _ _ _ (declared_sync InParts.the_type (
      sync,
      (Vec-sync _ (line_sync (Turns.the_row Law.the_row) (turns.ghosts Part.the_row Knowledge.the_row Law.the_row law.ghosts turns.no_dict)), (search (as_row_sync, sendable) depth 20, (shared_job, (search (as_row_sync, sendable) depth 20, tt)))),
    ))
