-- A free part: what holds of a part that lies in its queue, whatever the passes did before, in whatever order. And which rows lie in different morsels.
-- Source: own.
use Rattle.std.specs.Prelude.{◌≡◌, ◌<◌, ◌∷◌, [], ℕ, true, false, nat_eq, List}
use mathlib.Core.Option.{some}
use lib.ListN.{get_elem?}
use Rattle.std.specs.List.{IsDistinct}
use Rattle.ssb_plan.specs.JobShape.{JobShape}
use Rattle.ssb_job.specs.Kept.{fact_rows}
use Rattle.ssb_groups.specs.Stands.{Stands}
use Rattle.ssb_pipeline.specs.Joined.{morsel_rows, seen_in}
use Rattle.ssb_pipeline.specs.Morsels.{morsel, morsel_count, section}
use Rattle.ssb_pipeline.specs.Part.{AreOut, IsLawfulPart, IsReached, PartState, Ran, has, ours}
use Rattle.ssb_pipeline.specs.Rule.{AllPasses, AreApart, Knows, Ruled}

-- each of the numbers xs is among those, and none stands twice
pub record AreSomeOf (those xs : List ℕ) : Type 0 where
  pub among : (i : ℕ) → has xs i ≡ true → has those i ≡ true
  pub once : IsDistinct nat_eq xs

-- The part lies alone in its queue, and no pass holds it. It is lawful, and a core run led to it from an opening one. Its handed-out morsels are of its
-- section, each once; the returned ones are among them, each once; and its groups stand for exactly the kept combinations of the returned morsels. A core
-- run led to it from what each pass saw. What is due to a pass is out, handed out and neither back nor given up, and it is due to no other pass.
pub record IsFreePart (items : List PartState) (views : List Knows) (part : PartState) : Type 0 where
  pub alone : items ≡ part ∷ []
  pub unheld : AllPasses (λ _ v. v.holds ≡ false) views
  pub lawful : IsLawfulPart part
  pub reached : IsReached part
  pub handed : AreSomeOf (ours part) part.handed
  pub returned : AreSomeOf part.handed part.returned
  pub groups : Stands part.groups (seen_in part.job part.size part.returned)
  pub later : AllPasses (λ _ v. Ran v.seen part) views
  pub due : AllPasses (λ _ v. AreOut part v.due) views
  pub apart : AreApart views

-- wherever the rule of the queue holds, each part that lies in the queue is free so
abbrev pub FreeParts : Type 0
FreeParts = (items : List PartState) (views : List Knows) (place : ℕ) (part : PartState) → Ruled items views → get_elem? items place ≡ some part → IsFreePart items views part

-- ---- rows

-- the rows of a section's morsels
abbrev pub section_rows : JobShape → ℕ → ℕ → ℕ → List ℕ
section_rows j size sections s = morsel_rows j size (section (morsel_count (fact_rows j) size) sections s)

-- no row lies in two morsels
abbrev pub MorselsShareNoRow : Type 0
MorselsShareNoRow = (rows size row a b : ℕ) → has (morsel rows size a) row ≡ true → has (morsel rows size b) row ≡ true → a ≡ b

-- no row lies in morsels of two sections
abbrev pub SectionsShareNoRow : Type 0
SectionsShareNoRow = (j : JobShape) (size sections row s t : ℕ) → s < sections → t < sections → has (section_rows j size sections s) row ≡ true → has (section_rows j size sections t) row ≡ true → s ≡ t
