-- Joining totals place by place.
use Rattle.std.proofs.Common.{◌≡◌, ℕ, zero, suc, ◌<◌, ◌≤◌, drop, List, [], ◌∷◌, length, map, get_or, Some, refl, ap, ◌∙◌, arith}
use Rattle.std.proofs.lemmas.Option.{slice_get-get_or, slice_get-map}
use Rattle.std.specs.Prelude.{option_map, slice_get}
use Rattle.ssb_cells.specs.Cell.{Cell}
use Rattle.ssb_cells.specs.Tables.{Columns}
use Rattle.ssb_groups.specs.Joining.{AreJoinings, IsJoining}
use Rattle.ssb_groups.specs.Keys.{AreKept, IsKept, spelt}
use Rattle.ssb_groups.specs.declared.joining.Joining.{Joining}
use Rattle.ssb_groups.specs.declared.joining.Joining.TheVariants as joining
use Rattle.ssb_keys.specs.declared.kept.Kept.{Kept}

-- ---- the joinings of a job

pub joining-at : (tables : List Columns) (ws : List Joining) (i : ℕ) (d : Joining) → AreJoinings tables ws → i < length ws → IsJoining tables (get_or ws i d)
joining-at tables [] i d h below = absurd (omega arith)
joining-at tables (w ∷ ws) zero d h below = h.0
joining-at tables (w ∷ ws) (suc i) d h below = joining-at tables ws i d h.1 (omega arith)

-- ---- one total of each

module _ (f : Joining → List Cell) where
  pub many : (ws : List Joining) (ts : List Kept) → AreKept (map f ws) ts → length ts ≡ length ws
  many [] [] h = refl
  many [] (t ∷ ts) h = absurd h
  many (w ∷ ws) [] h = absurd h
  many (w ∷ ws) (t ∷ ts) h = let n = many ws ts h.1 in omega arith

  pub kept-get : (ws : List Joining) (ts : List Kept) (i : ℕ) (d : Joining) (e : Kept) → AreKept (map f ws) ts → i < length ws → IsKept (f (get_or ws i d)) (get_or ts i e)
  kept-get [] ts i d e h below = absurd (omega arith)
  kept-get (w ∷ ws) [] i d e h below = absurd h
  kept-get (w ∷ ws) (t ∷ ts) zero d e h below = h.0
  kept-get (w ∷ ws) (t ∷ ts) (suc i) d e h below = kept-get ws ts i d e h.1 (omega arith)

  -- the same of totals as they are

  -- the column and the cell at a place
  pub column-here : (ws : List Joining) (i : ℕ) → i < length ws → slice_get (map f ws) i ≡ Some (f (get_or ws i joining.Adds))
  column-here ws i lt = slice_get-map f ws i ∙ ap (option_map f) (slice_get-get_or ws i joining.Adds lt)
  -- those behind the first i are as they were, so they fit
  -- one more is joined
  -- the same of totals as they are

-- behind all columns nothing is left
pub none-left : (columns : List (List Cell)) (cells : List Kept) (i : ℕ) → length columns ≤ i → spelt (drop i columns) (drop i cells) ≡ []
none-left [] cells zero h = refl
none-left [] cells (suc i) h = refl
none-left (v ∷ vs) cells zero h = absurd (omega arith)
none-left (v ∷ vs) [] (suc i) h = nothing (drop i vs)
  where
    nothing : (ws : List (List Cell)) → spelt ws [] ≡ []
    nothing [] = refl
    nothing (w ∷ ws) = refl
none-left (v ∷ vs) (c ∷ cs) (suc i) h = none-left vs cs i (omega arith)
