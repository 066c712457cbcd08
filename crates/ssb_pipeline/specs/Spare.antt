-- Groups whose memory is used again.
-- Source: own; for the contracts inside this crate.
use Rattle.std.specs.Prelude.{[], ⊤, Option, None, Some}
use Rattle.ssb_groups.specs.Stands.{GroupMap, Stands}
use Rattle.ssb_job.specs.Kept.{AreOneJob}
use Rattle.ssb_plan.specs.JobShape.{JobShape}

-- groups of this job over no row
pub record AreSpare (j : JobShape) (g : GroupMap) : Type 0 where
  pub job : AreOneJob g.job j
  pub none : Stands g []

-- those, or none
abbrev pub IsSpareOf : JobShape → Option GroupMap → Type 0
IsSpareOf j None = ⊤
IsSpareOf j (Some g) = AreSpare j g
