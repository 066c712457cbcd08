-- How a part keeps what came back: a mark for each morsel of its section.
-- For the contracts inside this crate.
use Rattle.std.specs.Prelude.{◌≡◌, ◌≤◌, ◌<◌, ◌+◌, ◌-◌, ◌^◌, ℕ, Bool, true, false, List, [], ◌∷◌, length, slice_get, slice_set, Some}
use Rattle.std.specs.List.{range_with_len}
use Rattle.ssb_job.specs.Kept.{AreOneJob, fact_rows}
use Rattle.ssb_plan.specs.JobShape.{JobShape}
use Rattle.ssb_groups.specs.Stands.{GroupMap, Stands}
use Rattle.ssb_pipeline.specs.Joined.{morsel_rows, seen_in}
use Rattle.ssb_pipeline.specs.Morsels.{morsel_count, morsel_cut}

-- the numbers of the marked places, the first of which is a
abbrev pub marked : ℕ → List Bool → List ℕ
marked a [] = []
marked a (true ∷ bs) = a ∷ marked (a + 1) bs
marked a (false ∷ bs) = marked (a + 1) bs

-- the marks with those of these numbers set, or cleared, where the first mark is that of a
abbrev pub with_marks : Bool → ℕ → List Bool → List ℕ → List Bool
with_marks b a bs [] = bs
with_marks b a bs (i ∷ is) = with_marks b a (slice_set bs (i - a) b) is

-- what a part's fields keep: the job, the size of a morsel, the section and how many there are, the section's first morsel, how many were handed out, the marks of those that came back, how many are set, and the groups
pub record IsKept (j : JobShape) (size s k first next : ℕ) (marks : List Bool) (back : ℕ) (g : GroupMap) : Type 0 where
  pub many : 0 < k
  pub begins : first ≡ morsel_cut (morsel_count (fact_rows j) size) k s
  pub ends : first + length marks ≡ morsel_cut (morsel_count (fact_rows j) size) k (s + 1)
  pub fits : next ≤ length marks
  pub below : (i : ℕ) → slice_get marks i ≡ Some true → i < next
  pub came : back ≡ length (marked first marks)
  pub job : AreOneJob g.job j
  pub stands : Stands g (seen_in j size (marked first marks))
  pub few : g.counted ≤ length (morsel_rows j size (marked first marks))
  pub bound : first + length marks < 2 ^ 32
  pub room : length (morsel_rows j size (range_with_len first (length marks))) < 2 ^ 32
