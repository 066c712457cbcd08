-- Where a set says the same of one number and of the next.
-- For the contracts inside this crate.
-- Source: own.
use Rattle.std.specs.Prelude.{◌≡◌, ℕ, ℤ, pos, ◌+◌, ◌≤◌, ◌+ℤ◌, ◌≤ℤ◌, ◌<ℤ◌, List, length, slice_index_or}
use Rattle.ssb_sets.specs.NumberSets.{has}
use Rattle.ssb_sets.specs.declared.set.NumberSet.{NumberSet}

-- from one number on, as far as a last one
abbrev pub StaysTo : NumberSet → ℤ → ℤ → Type 0
StaysTo s from last = (n : ℤ) → from ≤ℤ n → n ≤ℤ last → has s n ≡ has s from

-- a place within bounds up to which it does
pub record IsCut (s : NumberSet) (from greatest cut : ℤ) : Type 0 where
  pub behind : from <ℤ cut
  pub within : cut ≤ℤ greatest
  pub stays : (n : ℤ) → from ≤ℤ n → n <ℤ cut → has s n ≡ has s from

-- the cuts at a place and at the next have one number between them
pub record IsPoint (cuts : List ℤ) (at : ℕ) (n : ℤ) : Type 0 where
  pub there : at + 2 ≤ length cuts
  pub first : slice_index_or cuts at (pos 0) ≡ n
  pub next : slice_index_or cuts (at + 1) (pos 0) ≡ n +ℤ pos 1
