-- Ranks: numbers in the order of a column's texts, so that two codes compare without their texts.
-- Source: SQL-92, 8.2 <comparison predicate>; that texts compare by their UTF-8 bytes is this project's own.
use Rattle.std.specs.Prelude.{◌≡◌, ◌<◌, ⊤, ℕ, List, [], Option, None, Some, get_or, length, slice_get}
use Rattle.std.specs.Cmp.Lexicographic.{slice_cmp}
use Rattle.std.specs.List.{range_with_len}
use Rattle.std.specs.List.Sorted.{IsPermutation, IsSorted}
use Rattle.std.specs.Ordering.{nat_cmp}
use Rattle.std.specs.declared.alloc.Global.{Global}
use Rattle.std.specs.declared.cmp.Ordering.{Ordering}
use Rattle.std.specs.declared.vec.Vec.{Vec}
use Rattle.ssb_cells.specs.Codes.{texts_of}
use Rattle.ssb_cells.specs.Tables.{Columns}
use Rattle.ssb_plan.specs.Inputs.{values_of}
use Rattle.ssb_plan.specs.declared.input.Input.{Input}
use Rattle.ssb_plan.specs.declared.input.Input.TheVariants as input

-- the order of the texts of two codes
abbrev pub text_order : List (List ℕ) → ℕ → ℕ → Ordering
text_order texts x y = slice_cmp nat_cmp (get_or texts x []) (get_or texts y [])

-- a rank for each text, by its code: two codes' ranks compare as their texts do
pub record AreRanks (texts : List (List ℕ)) (ranks : List ℕ) : Type 0 where
  pub many : length ranks ≡ length texts
  pub order : (x y : ℕ) → x < length texts → y < length texts → nat_cmp (get_or ranks x 0) (get_or ranks y 0) ≡ text_order texts x y

-- What may be kept of what an aggregate takes: the ranks of a column's texts, or none.
abbrev pub HasRanks : List Columns → Input → Option (Vec ℕ Global) → Type 0
HasRanks tables i None = ⊤
HasRanks tables input.Rows (Some ranks) = ⊥
HasRanks tables (input.Column r) (Some ranks) = AreRanks (texts_of (values_of tables r)) ranks.items
HasRanks tables (input.Number e) (Some ranks) = ⊥

-- for each aggregate, by what it takes
pub record AreAllRanks (tables : List Columns) (is : List Input) (all : List (Option (Vec ℕ Global))) : Type 0 where
  pub many : length all ≡ length is
  pub each : (n : ℕ) (i : Input) → slice_get is n ≡ Some i → HasRanks tables i (get_or all n None)

-- ---- inside this crate

-- the codes of texts, in the order of these
pub record AreInOrder (texts : List (List ℕ)) (codes : List ℕ) : Type 0 where
  pub same : IsPermutation (range_with_len 0 (length texts)) codes
  pub sorted : IsSorted (text_order texts) codes

-- for each of some numbers its place among them
pub record ArePlaces (codes places : List ℕ) : Type 0 where
  pub many : length places ≡ length codes
  pub each : (k : ℕ) → k < length codes → get_or places (get_or codes k 0) 0 ≡ k
