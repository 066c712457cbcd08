-- Codes in the order of their texts, and that their places among them are ranks.
use Rattle.std.proofs.Common.{◌≡◌, ◌≢◌, ◌∙◌, ◌+◌, ◌<◌, ◌⊎◌, inl, inr, ℕ, false, bytes_eq, nat_eq, List, [], ◌∷◌, fold, length, get_or, set, refl, sym, ap, ap₂, arith, zero-add, below_more, eq-eqb}
use Rattle.std.specs.Cmp.{nat_cmp_is}
use Rattle.std.specs.Cmp.Lexicographic.{nat_list_cmp_total, nat_list_eq_equiv}
use Rattle.std.specs.List.{All, IsDistinct, range_with_len}
use Rattle.std.specs.List.Sorted.{IsPermutation}
use Rattle.std.specs.Ordering.{is_eq, is_lt, nat_cmp, ordering_reverse}
use Rattle.std.specs.declared.cmp.Ordering.{Ordering}
use Rattle.std.specs.declared.cmp.Ordering.TheVariants.{Less, Equal, Greater}
use Rattle.std.proofs.lemmas.Bool.{cases_order, ne_eqb, true≢false}
use Rattle.std.proofs.lemmas.Cmp.{nat_eq_equiv, tied_itself}
use Rattle.std.proofs.lemmas.List.{get_or_default, get_or-set_other, get_or-set_same}
use Rattle.std.proofs.lemmas.List.FromFn.{get_or-range_with_len, length-range_with_len}
use Rattle.std.proofs.lemmas.List.Sorted.{All-permutation, Contains-permutation, length_permutation, ranks_by, sorted_far}
use Rattle.std.proofs.lemmas.Map.Keys.{apart_from_distinct, IsDistinct-from_apart, IsDistinct-IsPermutation}
use Rattle.std.proofs.lemmas.Map.Text.{is_eq-slice_cmp}
use Rattle.ssb_cells.specs.Cell.{Cell}
use Rattle.ssb_cells.specs.Codes.{texts_of, with_text}
use Rattle.ssb_cells.proofs.CodeFacts.{distinct-with, no-text}
use Rattle.ssb_plan.specs.Ranks.{AreInOrder, ArePlaces, AreRanks, text_order}

-- the texts of a column are all different
pub distinct-texts : (values : List Cell) → IsDistinct bytes_eq (texts_of values)
distinct-texts values = more [] values no-text
  where
    more : (texts : List (List ℕ)) (values : List Cell) → IsDistinct bytes_eq texts → IsDistinct bytes_eq (fold with_text texts values)
    more texts [] d = d
    more texts (v ∷ values) d = more (with_text texts v) values (distinct-with texts v d)

-- ---- codes, each below a count once

pub many-codes : (codes : List ℕ) (n : ℕ) → IsPermutation (range_with_len 0 n) codes → length codes ≡ n
many-codes codes n same = length_permutation (range_with_len 0 n) codes same ∙ length-range_with_len 0 n

-- each stands at some place
code-place : (codes : List ℕ) (n x : ℕ) → IsPermutation (range_with_len 0 n) codes → x < n → (k : ℕ) × (k < n) × (get_or codes k 0 ≡ x)
code-place codes n x same lt =
    let long = length-range_with_len 0 n in
    let at = Contains-permutation (range_with_len 0 n) codes x same (x, omega (arith, long, lt), get_or-range_with_len 0 n x x lt ∙ zero-add x) in
    (at.0, omega (arith, at.1, many-codes codes n same), get_or_default codes at.0 0 x at.1 ∙ at.2)

pub code-below : (codes : List ℕ) (n k : ℕ) → IsPermutation (range_with_len 0 n) codes → k < n → get_or codes k 0 < n
code-below codes n k same lt =
    let below : All (λ c. c < n) (range_with_len 0 n) = λ i d within. rw (get_or-range_with_len 0 n i d (omega (arith, within, length-range_with_len 0 n))) (omega (arith, within, length-range_with_len 0 n)) in
    All-permutation (λ c. c < n) (range_with_len 0 n) codes same below k 0 (omega (arith, lt, many-codes codes n same))

-- none stands at two places
code-apart : (codes : List ℕ) (n i j : ℕ) → IsPermutation (range_with_len 0 n) codes → i < j → j < n → get_or codes i 0 ≢ get_or codes j 0
code-apart codes n i j same lt within e =
    let long = length-range_with_len 0 n in
    let range-apart : IsDistinct nat_eq (range_with_len 0 n) = IsDistinct-from_apart nat_eq (range_with_len 0 n) (λ a b d less below. let c : a < n = omega (arith, long, less, below) in let e : b < n = omega (arith, long, below) in rw (get_or-range_with_len 0 n a d c, get_or-range_with_len 0 n b d e) (ne_eqb (0 + a) (0 + b) (omega (arith, less)))) in
    let codes-apart = IsDistinct-IsPermutation nat_eq nat_eq_equiv.symm (range_with_len 0 n) codes same range-apart in
    true≢false (sym (eq-eqb (get_or codes i 0) (get_or codes j 0) e) ∙ apart_from_distinct nat_eq codes i j 0 codes-apart lt (omega (arith, within, many-codes codes n same)))

-- one place more
pub one-more : (codes places : List ℕ) (n k : ℕ) → IsPermutation (range_with_len 0 n) codes → k < n → length places ≡ length codes → ((i : ℕ) → i < k → get_or places (get_or codes i 0) 0 ≡ i) → (i : ℕ) → i < k + 1 → get_or (set places (get_or codes k 0) k) (get_or codes i 0) 0 ≡ i
one-more codes places n k same lt long each =
    below_more _ _
    (λ i less. get_or-set_other places (get_or codes k 0) (get_or codes i 0) k 0 (code-apart codes n i k same less lt) ∙ each i less)
    (get_or-set_same places (get_or codes k 0) k 0 (omega (arith, code-below codes n k same lt, many-codes codes n same, long)))

-- ---- texts

not-less : (o : Ordering) → is_lt o ≡ false → is_eq o ≡ false → ordering_reverse o ≡ Less
not-less Less less same = absurd (true≢false less)
not-less Equal less same = absurd (true≢false same)
not-less Greater less same = refl

-- two different codes have different texts
texts-apart : (texts : List (List ℕ)) (x y : ℕ) → IsDistinct bytes_eq texts → x ≢ y → x < length texts → y < length texts → bytes_eq (get_or texts x []) (get_or texts y []) ≡ false
texts-apart texts x y distinct apart ltx lty = by (cases_order x y)
  where
    by : (x ≡ y) ⊎ ((x < y) ⊎ (y < x)) → bytes_eq (get_or texts x []) (get_or texts y []) ≡ false
    by (inl e) = absurd (apart e)
    by (inr (inl less)) = apart_from_distinct bytes_eq texts x y [] distinct less lty
    by (inr (inr less)) = nat_list_eq_equiv.symm (get_or texts x []) (get_or texts y []) ∙ apart_from_distinct bytes_eq texts y x [] distinct less ltx

-- a text at a place is less than those behind it
rises : (texts : List (List ℕ)) (codes : List ℕ) (i j : ℕ) → IsDistinct bytes_eq texts → AreInOrder texts codes → i < j → j < length texts → text_order texts (get_or codes i 0) (get_or codes j 0) ≡ Less
rises texts codes i j distinct h less lt =
    let n = length texts in
    let a = get_or codes i 0 in
    let b = get_or codes j 0 in
    let many = many-codes codes n h.same in
    let upward = sorted_far (λ x y. is_lt (text_order texts x y)) (ranks_by nat_list_cmp_total (λ x. get_or texts x [])) codes h.sorted i j 0 (omega arith) (omega (arith, lt, many)) in
    let other = texts-apart texts b a distinct (λ e. code-apart codes n i j h.same less lt (sym e)) (code-below codes n j h.same lt) (code-below codes n i h.same (omega arith)) in
    nat_list_cmp_total.antisymm (get_or texts a []) (get_or texts b []) ∙ not-less (text_order texts b a) upward (is_eq-slice_cmp (get_or texts b []) (get_or texts a []) ∙ other)

-- places compare as their texts do
places-order : (texts : List (List ℕ)) (codes : List ℕ) (i j : ℕ) → IsDistinct bytes_eq texts → AreInOrder texts codes → i < length texts → j < length texts → nat_cmp i j ≡ text_order texts (get_or codes i 0) (get_or codes j 0)
places-order texts codes i j distinct h lti ltj = by (cases_order i j)
  where
    by : (i ≡ j) ⊎ ((i < j) ⊎ (j < i)) → nat_cmp i j ≡ text_order texts (get_or codes i 0) (get_or codes j 0)
    by (inl e) = sym (nat_cmp_is i j Equal e) ∙ sym (tied_itself nat_list_cmp_total (get_or texts (get_or codes i 0) [])) ∙ ap (λ k. text_order texts (get_or codes i 0) (get_or codes k 0)) e
    by (inr (inl less)) = sym (nat_cmp_is i j Less less) ∙ sym (rises texts codes i j distinct h less ltj)
    by (inr (inr less)) = sym (nat_cmp_is i j Greater less) ∙ sym (nat_list_cmp_total.antisymm (get_or texts (get_or codes i 0) []) (get_or texts (get_or codes j 0) []) ∙ ap ordering_reverse (rises texts codes j i distinct h less lti))

-- so they are ranks
pub are-ranks : (texts : List (List ℕ)) (codes places : List ℕ) → IsDistinct bytes_eq texts → AreInOrder texts codes → ArePlaces codes places → AreRanks texts places
are-ranks texts codes places distinct h p =
    let n = length texts in
    let many = many-codes codes n h.same in
    record {
      many = p.many ∙ many;
      order = λ x y ltx lty.
          let a = code-place codes n x h.same ltx in
          let b = code-place codes n y h.same lty in
          let rank-a : get_or places x 0 ≡ a.0 = ap (λ c. get_or places c 0) (sym a.2) ∙ p.each a.0 (omega (arith, a.1, many)) in
          let rank-b : get_or places y 0 ≡ b.0 = ap (λ c. get_or places c 0) (sym b.2) ∙ p.each b.0 (omega (arith, b.1, many)) in
          ap₂ nat_cmp rank-a rank-b ∙ places-order texts codes a.0 b.0 distinct h a.1 b.1 ∙ ap₂ (text_order texts) a.2 b.2;
    }
