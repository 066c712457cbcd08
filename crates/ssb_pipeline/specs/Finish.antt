-- What finishing does: it takes the part of each section, and gives the groups over the sections, one after the other.
-- Source: own.
use Rattle.std.specs.Prelude.{◌≡◌, ℕ, ◌<◌, ◌+◌, ◌++◌, false, List, length}
use Rattle.ssb_job.specs.Kept.{fact_rows}
use Rattle.ssb_groups.specs.Rows.{SeenRow}
use Rattle.ssb_groups.specs.Stands.{GroupMap, Stands}
use Rattle.ssb_pipeline.specs.Morsels.{morsel_count, section}
use Rattle.ssb_pipeline.specs.Part.{IsLawfulPart, IsReached, Ran}
use Rattle.ssb_pipeline.specs.Pass.{IsPartOf, PartsState, PassState, known}
use Rattle.ssb_pipeline.specs.Rule.{Knows, taker}

-- a pass that knew v took the part of this section and holds it, and what it knows since is w: a core run led to the part from what the pass had seen of it
-- before, and from an opening part
pub record HasTaken (parts : PartsState) (s : ℕ) (v w : Knows) : Type 0 where
  pub took : w ≡ taker v w.seen
  pub part : IsPartOf parts s w.seen
  pub lawful : IsLawfulPart w.seen
  pub reached : IsReached w.seen
  pub ran : Ran v.seen w.seen

-- it took the parts of all sections, and no ticket was given up in any of them
pub record HasTakenAll (parts : PartsState) (p q : PassState) : Type 0 where
  pub taken : (s : ℕ) → s < length parts.queues → HasTaken parts s (known p s) (known q s)
  pub kept : (s : ℕ) → s < length parts.queues → (known q s).seen.gave_up ≡ false

-- r is g and h merged: it stands for the rows of both
pub record IsMerged (g h r : GroupMap) : Type 0 where
  pub stands : (A B : List SeenRow) → Stands g A → Stands h B → Stands r (A ++ B)
  pub job : r.job ≡ g.job
  pub counted : r.counted ≡ g.counted + h.counted

-- the morsels of a section of these parts
abbrev pub section_of : PartsState → ℕ → List ℕ
section_of parts s = section (morsel_count (fact_rows parts.job) parts.size) (length parts.queues) s
