-- What contracts see of the queues of all parts, and of a worker's pass.
-- Source: own.
use Rattle.std.specs.Prelude.{◌≡◌, ℕ, ◌<◌, true, false, List, [], length, slice_index_or, slice_set, Option, map}
use Rattle.atomic_table.specs.Seated.{TableId}
use Rattle.crossbeam_queue.specs.declared.array_queue.Doing.{Doing}
use Rattle.crossbeam_queue.specs.declared.array_queue.Slotted.{Slotted}
use Rattle.crossbeam_queue.specs.Passes.{Pass, view, ruled_capacity}
use Rattle.ssb_job.specs.Kept.{AreOneJob}
use Rattle.ssb_plan.specs.JobShape.{JobShape}
use Rattle.ssb_pipeline.specs.Part.{PartState}
use Rattle.ssb_pipeline.specs.Rule.{Knows, fresh, newcomer}

module _ {T V Q A : Type 0} where
  abbrev pub queue_name : Slotted (Option T) (Doing T V) Q A → TableId
  queue_name q = q.table.shared.table_id

  -- it has room for one part
  abbrev pub IsSingle : Slotted (Option T) (Doing T V) Q A → Type 0
  IsSingle q = ruled_capacity q ≡ 1

module _ {T V : Type 0} where
  abbrev pub pass_name : Pass T V → TableId
  pass_name p = p.table_id

  abbrev pub pass_view : Pass T V → V
  pass_view p = view p

  -- no slot of the queue is out with it
  abbrev pub IsAtRest : Pass T V → Type 0
  IsAtRest p = p.me.1 ≡ []

-- a worker's pass: the queue of each section, and what it knows of each
pub record PassState : Type 0 where
  pub queues : List TableId
  pub views : List Knows

-- what the pass knows of this section
abbrev pub known : PassState → ℕ → Knows
known p section = slice_index_or p.views section fresh

-- the same pass, which knows this of the section
abbrev pub knowing : PassState → ℕ → Knows → PassState
knowing p section v = record { queues = p.queues; views = slice_set p.views section v }

-- all parts: the name of the queue of each, the job, and the size of a morsel
pub record PartsState : Type 0 where
  pub queues : List TableId
  pub job : JobShape
  pub size : ℕ

-- a state of the part of this section
pub record IsPartOf (parts : PartsState) (s : ℕ) (p : PartState) : Type 0 where
  pub job : AreOneJob p.job parts.job
  pub size : p.size ≡ parts.size
  pub section : p.section ≡ s
  pub sections : p.sections ≡ length parts.queues

-- what a pass knows of this section
pub record IsViewOf (parts : PartsState) (s : ℕ) (v : Knows) : Type 0 where
  pub opened : v.opened ≡ true
  pub part : IsPartOf parts s v.seen

-- F holds of each section and what the pass knows of it
abbrev pub AllSections : (ℕ → Knows → Type 0) → PassState → Type 0
AllSections F p = (s : ℕ) → s < length p.views → F s (known p s)

-- it is a pass of these parts
pub record IsPassOfParts (parts : PartsState) (p : PassState) : Type 0 where
  pub queues : p.queues ≡ parts.queues
  pub count : length p.views ≡ length parts.queues
  pub each : AllSections (IsViewOf parts) p

-- it holds no part
abbrev pub HoldsNone : PassState → Type 0
HoldsNone p = AllSections (λ _ v. v.holds ≡ false) p

-- nothing was handed out to it, nothing is due, and it has seen that nothing was handed out, came back or was given up
pub record IsUnused (v : Knows) : Type 0 where
  pub mine : v.mine ≡ []
  pub due : v.due ≡ []
  pub handed : v.seen.handed ≡ []
  pub returned : v.seen.returned ≡ []
  pub gave_up : v.seen.gave_up ≡ false

-- it knows so of each section
abbrev pub KnowsNothing : PassState → Type 0
KnowsNothing p = AllSections (λ _ v. IsUnused v) p

-- passes that have seen as much, of the same queues
abbrev pub newcomers : PassState → PassState
newcomers p = record { queues = p.queues; views = map newcomer p.views }
