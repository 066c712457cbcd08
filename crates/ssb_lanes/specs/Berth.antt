-- The rule of the queue in which one lane lies: each pass knows which source it has, and how it is read, once the lane was laid.
-- For the contracts inside this crate.
use Rattle.std.specs.Prelude.{◌≡◌, ℕ, List, [], ◌∷◌, ◌⊎◌, Option, None, Some, map}
use mathlib.Core.Option.{some}
use lib.ListN.{get_elem?}
use Rattle.std.specs.List.{All}
use Rattle.atomic_table.specs.Seated.{TableId}
use Rattle.crossbeam_queue.specs.declared.array_queue.Doing.{Doing}
use Rattle.crossbeam_queue.specs.declared.array_queue.Slotted.{Slotted}
use Rattle.crossbeam_queue.specs.Passes.{Pass, view}
use Rattle.ssb_load.specs.Subject.{Subject}
use Rattle.ssb_load.specs.TableIntake.{subject_of}
use Rattle.ssb_load.specs.declared.table_intake.TableIntake.{TableIntake}
use Rattle.ssb_records.specs.declared.source.Source.{Ghosts as Source}
use Rattle.ssb_lanes.specs.Joined.{IsUnread}
use Rattle.ssb_lanes.specs.Lane.{IsLaneRead}
use Rattle.ssb_lanes.specs.declared.berth.Known.{Known}
use Rattle.ssb_lanes.specs.declared.berth.Laid.{Laid}

-- the source of its lane as it was joined, and as rows of which table it is read
abbrev pub known : {S : Type 0} → S → TableIntake → Known S
known joined table = record { joined = joined; table = table }

abbrev pub known_of : {S : Type 0} → Laid S → Known S
known_of x = known x.lane.joined.value x.table.value

-- a lane was laid, to be read for this
abbrev pub Knows : {S : Type 0} → Subject → Option (Known S) → Type 0
Knows {S = S} subject v = (k : Known S) × (v ≡ Some k) × (subject_of k.table ≡ subject)

-- all bytes of its lane's source, where they are told
abbrev pub told_of : {S : Type 0} → (S → Option (List ℕ)) → Option (Known S) → Option (List ℕ)
told_of whole None = None
told_of whole (Some k) = whole k.joined

-- A lane on its way between threads: its source tells the same bytes as at first, is as it was while nothing was read of it, and otherwise what was read is told.
pub record IsKept {S : Type 0} (s : Source S) (x : Laid S) : Type 0 where
  pub told : s.whole x.lane.source ≡ s.whole x.lane.joined.value
  pub unread : x.lane.read ≡ None → IsUnread s.given x.lane
  pub read : IsLaneRead s (subject_of x.table.value) x.lane

-- a new queue is empty, and its one pass knows nothing
abbrev pub IsNew : {S : Type 0} → List (Laid S) → List (Option (Known S)) → Type 0
IsNew items views = (items ≡ []) × (views ≡ None ∷ [])

-- all passes know the same, which holds of each lane that the queue has
pub record IsShared {S : Type 0} (s : Source S) (items : List (Laid S)) (views : List (Option (Known S))) : Type 0 where
  pub known : Known S
  pub passes : (pass : ℕ) (v : Option (Known S)) → get_elem? views pass ≡ some v → v ≡ Some known
  pub same : All (λ x. known_of x ≡ known) items
  pub kept : All (IsKept s) items

abbrev pub Ruled : {S : Type 0} → Source S → List (Laid S) → List (Option (Known S)) → Type 0
Ruled s items views = IsNew items views ⊎ IsShared s items views

module _ {T V Q A : Type 0} where
  abbrev pub queue_name : Slotted (Option T) (Doing T V) Q A → TableId
  queue_name q = q.table.shared.table_id

  -- a pass of each queue, with which no slot is out
  pub record AreOfEach (queues : List (Slotted (Option T) (Doing T V) Q A)) (passes : List (Pass T V)) : Type 0 where
    pub names : map (λ (p : Pass T V). p.table_id) passes ≡ map queue_name queues
    pub rest : All (λ (p : Pass T V). p.me.1 ≡ []) passes

module _ {T Q A : Type 0} where
  -- a pass of each queue, to read its lane for this
  pub record IsHand {S : Type 0} (subject : Subject) (queues : List (Slotted (Option T) (Doing T (Option (Known S))) Q A)) (passes : List (Pass T (Option (Known S)))) : Type 0 where
    pub each : AreOfEach queues passes
    pub knows : All (Knows subject) (map view passes)
