-- How two lists of cuts are gone through together, from the least cut on.
-- For the contracts inside this crate.
-- Source: own.
use Rattle.std.specs.Prelude.{◌≡◌, ◌⊎◌, ℕ, ℤ, pos, ◌+◌, ◌<◌, ◌≤◌, ◌≤ℤ◌, Bool, not, List, length, take, slice_index_or}
use Rattle.ssb_sets.specs.NumberSets.{said_by}
use Rattle.ssb_sets.specs.declared.merge.Place.{Place}

-- what the cuts passed say of a number
abbrev pub part : Bool → List ℤ → ℕ → ℤ → Bool
part first cuts passed n = said_by first (take passed cuts) n

-- a place behind the last cut passed: no cut ahead is below that one, and from it on the place has what the cuts passed say
pub record Follows (first : Bool) (cuts : List ℤ) (p : Place) (last : ℤ) : Type 0 where
  pub within : p.passed ≤ length cuts
  pub ahead : (k : ℕ) → p.passed ≤ k → k < length cuts → last ≤ℤ slice_index_or cuts k (pos 0)
  pub says : (n : ℤ) → last ≤ℤ n → part first cuts p.passed n ≡ p.said

-- a cut ahead in one of the lists, and none ahead is below it
pub record IsNext (ones : List ℤ) (i : ℕ) (others : List ℤ) (j : ℕ) (cut : ℤ) : Type 0 where
  pub there : ((i < length ones) × (slice_index_or ones i (pos 0) ≡ cut)) ⊎ ((j < length others) × (slice_index_or others j (pos 0) ≡ cut))
  pub below_ones : i < length ones → cut ≤ℤ slice_index_or ones i (pos 0)
  pub below_others : j < length others → cut ≤ℤ slice_index_or others j (pos 0)

-- one place further, if the next cut is this one, or else the same place
abbrev pub Passes : List ℤ → Place → ℤ → Place → Type 0
Passes cuts p cut q = ((p.passed < length cuts) × (slice_index_or cuts p.passed (pos 0) ≡ cut) × (q ≡ record { passed = p.passed + 1; said = not p.said }))
    ⊎ ((p.passed < length cuts → slice_index_or cuts p.passed (pos 0) ≡ cut → ⊥) × (q ≡ p))
