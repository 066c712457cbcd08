-- Rows in the order of their numbers.
use Rattle.std.proofs.Common.{◌≡◌, ◌∙◌, ◌∷◌, [], ◌<◌, ◌-◌, ◌-ℤ◌, ◌+◌, ◌^◌, ℕ, ℤ, pos, negsuc, int_lt, min, zero, suc, Bool, true, false, cond, List, map, get_or, refl, sym, ap, subst, arith}
use Rattle.std.specs.Int.{int_gap}
use Rattle.std.specs.Ordering.{nat_cmp, int_cmp, is_lt, ordering_then, ordering_reverse}
use Rattle.std.specs.Cmp.{IsTotalOrder, nat_cmp_is, nat_cmp_total, on_total, ranked, then_total}
use Rattle.std.specs.Cmp.Lexicographic.{slice_cmp}
use Rattle.std.specs.List.{All}
use Rattle.std.specs.List.Sorted.{IsPermutation, IsSortedBy}
use Rattle.std.specs.declared.cmp.Ordering.{Ordering}
use Rattle.std.specs.declared.cmp.Ordering.TheVariants.{Less, Equal, Greater}
use Rattle.std.proofs.lemmas.Bool.{lt-ltb}
use Rattle.std.proofs.lemmas.List.Sorted.{All-permutation, IsPermutation-map}
use Rattle.ssb_cells.specs.Cell.{Cell, null, number, text}
use Rattle.ssb_cells.specs.Order.{cell_cmp}
use Rattle.ssb_query.specs.declared.query.BoundOrder.{BoundOrder}
use Rattle.ssb_rows.specs.Kept.{keyed_row, keyed_rows}
use Rattle.ssb_rows.specs.Leads.{greatest, key_cmp, lead, lead_by, lead_of, with_lead}
use Rattle.ssb_rows.specs.Order.{Row, IsOrdered, at, by_key, by_keys, row_cmp}
use Rattle.ssb_rows.specs.declared.order.SortKey.{SortKey}
use Rattle.ssb_rows.proofs.Orders.{row_total, sorted-map}

-- ---- values

abbrev least : ℤ
least = pos 0 -ℤ pos (2 ^ 63)

nat-less : (x y : ℕ) → x < y → nat_cmp x y ≡ Less
nat-less x y lt = sym (nat_cmp_is x y Less lt)

nat-lower : (x y : ℕ) → nat_cmp x y ≡ Less → x < y
nat-lower x y is = ranked x y Less (sym is)

nat-higher : (x y : ℕ) → nat_cmp x y ≡ Greater → y < x
nat-higher x y is = ranked x y Greater (sym is)

int-lower : (x y : ℤ) → min greatest (int_gap least x) < min greatest (int_gap least y) → int_lt x y ≡ true
int-lower (pos a) (pos b) lt = lt-ltb a b (omega (arith, lt))
int-lower (pos a) (negsuc b) lt = absurd (omega (arith, lt))
int-lower (negsuc a) (pos b) lt = refl
int-lower (negsuc a) (negsuc b) lt = lt-ltb b a (omega (arith, lt))

int-less : (x y : ℤ) → min greatest (int_gap least x) < min greatest (int_gap least y) → int_cmp x y ≡ Less
int-less x y lt = ap (λ b. cond b Less (cond (int_lt y x) Greater Equal)) (int-lower x y lt)

pub cell-less : (a b : Cell) → lead_of a < lead_of b → cell_cmp a b ≡ Less
cell-less null null lt = absurd (omega (arith, lt))
cell-less null (number y) lt = refl
cell-less null (text t) lt = refl
cell-less (number x) null lt = absurd (omega (arith, lt))
cell-less (number x) (number y) lt = int-less x y lt
cell-less (number x) (text t) lt = refl
cell-less (text s) null lt = absurd (omega (arith, lt))
cell-less (text s) (number y) lt = absurd (omega (arith, lt))
cell-less (text s) (text t) lt = absurd (omega (arith, lt))

-- ---- rows

then-less : (o p : Ordering) → o ≡ Less → ordering_then o p ≡ Less
then-less o p e = ap (λ x. ordering_then x p) e

key-less : (key : BoundOrder) (a b : Row) → lead_by key.descending (at a key.item) < lead_by key.descending (at b key.item) → by_key key a b ≡ Less
key-less key a b lt = by key.descending lt
  where
    by : (down : Bool) → lead_by down (at a key.item) < lead_by down (at b key.item) → (cond down (cell_cmp (at b key.item) (at a key.item)) (cell_cmp (at a key.item) (at b key.item))) ≡ Less
    by true lt = cell-less (at b key.item) (at a key.item) (omega (arith, lt))
    by false lt = cell-less (at a key.item) (at b key.item) lt

all-less : (a b : Row) → lead_of (at a 0) < lead_of (at b 0) → slice_cmp cell_cmp a b ≡ Less
all-less [] [] lt = absurd (omega (arith, lt))
all-less [] (d ∷ b) lt = refl
all-less (c ∷ a) [] lt = absurd (omega (arith, lt))
all-less (c ∷ a) (d ∷ b) lt = then-less (cell_cmp c d) (slice_cmp cell_cmp a b) (cell-less c d lt)

-- a row with a lesser number comes first
pub row-less : (by : List BoundOrder) (a b : Row) → lead by a < lead by b → row_cmp by a b ≡ Less
row-less [] a b lt = all-less a b lt
row-less (key ∷ keys) a b lt = then-less _ (slice_cmp cell_cmp a b) (then-less _ (by_keys keys a b) (key-less key a b lt))

-- ---- keys

module _ (by : List BoundOrder) (cells : List Cell) (width : ℕ) where
  abbrev row : SortKey → Row
  row key = keyed_row cells width key

  -- keys with the numbers of their rows are in the order of the rows
  key-is : (a b : SortKey) → a.lead ≡ lead by (row a) → b.lead ≡ lead by (row b) → key_cmp by cells width a b ≡ row_cmp by (row a) (row b)
  key-is a b e f = go (nat_cmp a.lead b.lead) refl
    where
      go : (o : Ordering) → nat_cmp a.lead b.lead ≡ o → ordering_then o (row_cmp by (row a) (row b)) ≡ row_cmp by (row a) (row b)
      go Less is = sym (row-less by (row a) (row b) (subst (λ n. n < lead by (row b)) e (subst (λ n. a.lead < n) f (nat-lower a.lead b.lead is))))
      go Equal is = refl
      go Greater is = sym ((row_total by).antisymm (row a) (row b) ∙ ap ordering_reverse (row-less by (row b) (row a) (subst (λ n. n < lead by (row a)) f (subst (λ n. b.lead < n) e (nat-higher a.lead b.lead is)))))

  abbrev IsLed : SortKey → Type 0
  IsLed key = key.lead ≡ lead by (row key)

  abbrev led : List SortKey → List SortKey
  led keys = map (with_lead by cells width) keys

  led-rows : (keys : List SortKey) → keyed_rows cells width (led keys) ≡ keyed_rows cells width keys
  led-rows [] = refl
  led-rows (key ∷ keys) = ap (λ rs. row key ∷ rs) (led-rows keys)

  are-led : (keys : List SortKey) → All IsLed (led keys)
  are-led [] = λ i d below. absurd (omega (arith, below))
  are-led (key ∷ keys) = both (are-led keys)
    where
      both : All IsLed (led keys) → All IsLed (led (key ∷ keys))
      both rest zero d below = refl
      both rest (suc i) d below = rest i d (omega (arith, below))

  pub key_total : IsTotalOrder (key_cmp by cells width)
  key_total = then_total (on_total (λ (key : SortKey). key.lead) nat_cmp_total) (on_total row (row_total by))

  -- what is sorted by keys is sorted by rows
  in-order : (keys : List SortKey) → All IsLed keys → IsSortedBy (λ a b. is_lt (key_cmp by cells width a b)) keys → IsSortedBy (λ a b. is_lt (row_cmp by (row a) (row b))) keys
  in-order keys h up = λ k d low high.
      sym (ap is_lt (key-is (get_or keys (k + 1) d) (get_or keys k d) (h (k + 1) d high) (h k d (omega (arith, high))))) ∙ up k d low high

  pub ordered : (keys given sorted : List SortKey) → given ≡ led keys → IsPermutation given sorted → IsSortedBy (λ a b. is_lt (key_cmp by cells width a b)) sorted
      → IsOrdered by (keyed_rows cells width keys) (keyed_rows cells width sorted)
  ordered keys given sorted is same up =
      let h : All IsLed sorted = All-permutation IsLed given sorted same (subst (All IsLed) (sym is) (are-led keys)) in
      record {
        same = subst (λ rs. IsPermutation rs (keyed_rows cells width sorted)) (ap (keyed_rows cells width) is ∙ led-rows keys) (IsPermutation-map row given sorted same);
        sorted = sorted-map (λ a b. is_lt (row_cmp by a b)) row sorted (in-order sorted h up);
      }
