-- What contracts see of partial groups.
-- Source: own.
use Rattle.std.specs.Prelude.{◌≡◌, ℕ, ◌≤◌, List, ◌∷◌, length, None, Some, Result, Ok, Err, Vec}
use Rattle.std.specs.List.{All}
use Rattle.ssb_job.specs.Kept.{AreOneJob}
use Rattle.ssb_plan.specs.JobShape.{JobShape}
use Rattle.ssb_groups.specs.Stands.{GroupMap, Stands}
use Rattle.ssb_pipeline.specs.Joined.{morsel_rows, seen_in}
use Rattle.ssb_pipeline.specs.Tickets.{TicketState, batch_fault, morsels_of}
use Rattle.ssb_pipeline.specs.declared.batch.BatchFault.{BatchFault}
use Rattle.ssb_pipeline.specs.declared.batch.BatchFault.TheVariants as fault
use Rattle.std.specs.declared.alloc.Global.{Global}

-- tickets, in their order, and groups
pub record PartialState : Type 0 where
  pub tickets : List TicketState
  pub groups : GroupMap

-- groups of this job over these of its morsels: they stand for the kept combinations there, and count no more rows than lie there
pub record AreOver (j : JobShape) (size : ℕ) (morsels : List ℕ) (g : GroupMap) : Type 0 where
  pub job : AreOneJob g.job j
  pub stands : Stands g (seen_in j size morsels)
  pub few : g.counted ≤ length (morsel_rows j size morsels)

-- the tickets are a batch of one job, and the groups are over all of their morsels
pub record IsOfTickets (p : PartialState) : Type 0 where
  pub first : TicketState
  pub rest : List TicketState
  pub are : p.tickets ≡ first ∷ rest
  pub batch : batch_fault p.tickets ≡ None
  pub one_job : All (λ t. AreOneJob t.job first.job) p.tickets
  pub over : AreOver first.job first.size (morsels_of p.tickets) p.groups

-- tickets made a partial
pub record IsMade (ts : List TicketState) (p : PartialState) : Type 0 where
  pub batch : batch_fault ts ≡ None
  pub tickets : p.tickets ≡ ts

-- tickets made none, and came back in their order: for their own fault, the least, and where they have none for want of memory
abbrev pub IsTold : List TicketState → BatchFault → Type 0
IsTold ts fault.Memory = batch_fault ts ≡ None
IsTold ts f = batch_fault ts ≡ Some f

pub record IsUnmade (ts us : List TicketState) (f : BatchFault) : Type 0 where
  pub tickets : us ≡ ts
  pub told : IsTold ts f

-- what making a partial of tickets answers, exactly where
abbrev pub MakesPartial : List TicketState → Result PartialState (Vec TicketState Global × BatchFault) → Type 0
MakesPartial ts (Ok p) = IsMade ts p
MakesPartial ts (Err e) = IsUnmade ts e.0.items e.1
