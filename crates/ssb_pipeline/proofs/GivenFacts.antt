-- The numbers of marked places, where marks are set and cleared.
use Rattle.std.proofs.Common.{◌≡◌, ◌∙◌, ◌∷◌, [], ◌≤◌, ◌<◌, ◌+◌, ◌-◌, ◌||◌, ℕ, zero, suc, Bool, true, false, nat_eq, List, length, inl, inr, refl, sym, ap, arith}
use Rattle.std.specs.Prelude.{slice_set}
use Rattle.std.proofs.lemmas.Bool.{eqb-true, false_from_ne_true}
use Rattle.std.proofs.lemmas.List.{length-set}
use Rattle.ssb_pipeline.specs.Marks.{marked, with_marks}
use Rattle.ssb_pipeline.specs.Part.{IsWith, has}
use Rattle.ssb_pipeline.proofs.MarkFacts.{mark-before}
use Rattle.ssb_pipeline.proofs.Numbers.{head-has, known, lacks-first, lacks-rest, only-one, tail-has}
use Rattle.ssb_pipeline.proofs.RangeFacts.{itself}
use Rattle.ssb_pipeline.proofs.SetFacts.{has-either}

other : (i j : ℕ) → (i ≡ j → ⊥) → nat_eq i j ≡ false
other i j ne = false_from_ne_true (nat_eq i j) (λ e. ne (eqb-true i j e))

-- ---- one mark

set-here : (a : ℕ) (bs : List Bool) (k i : ℕ) (b : Bool) → i ≡ a + k → k < length bs → has (marked a (slice_set bs k b)) i ≡ b
set-here a [] k i b e h = absurd (omega (arith, h))
set-here a (x ∷ bs) zero i true e h = ap (λ t. t || has (marked (a + 1) bs) i) (itself i a (omega (arith, e)))
set-here a (x ∷ bs) zero i false e h = sym (mark-before (a + 1) bs i (omega (arith, e)))
set-here a (true ∷ bs) (suc k) i b e h =
    let no : i ≡ a → ⊥ = (λ s. omega (arith, e, s)) in
    ap (λ t. t || has (marked (a + 1) (slice_set bs k b)) i) (other i a no) ∙ set-here (a + 1) bs k i b (omega (arith, e)) (omega (arith, h))
set-here a (false ∷ bs) (suc k) i b e h = set-here (a + 1) bs k i b (omega (arith, e)) (omega (arith, h))

set-else : (a : ℕ) (bs : List Bool) (k j : ℕ) (b : Bool) → (j ≡ a + k → ⊥) → has (marked a (slice_set bs k b)) j ≡ has (marked a bs) j
set-else a [] k j b h = refl
set-else a (x ∷ bs) zero j b h =
    let ne : nat_eq j a ≡ false = other j a (λ e. h (omega (arith, e))) in
    one b ne ∙ sym (one x ne)
  where
    one : (b : Bool) → nat_eq j a ≡ false → has (marked a (b ∷ bs)) j ≡ has (marked (a + 1) bs) j
    one true ne = ap (λ t. t || has (marked (a + 1) bs) j) ne
    one false ne = refl
set-else a (true ∷ bs) (suc k) j b h = ap (λ t. nat_eq j a || t) (set-else (a + 1) bs k j b (λ e. h (omega (arith, e))))
set-else a (false ∷ bs) (suc k) j b h = set-else (a + 1) bs k j b (λ e. h (omega (arith, e)))

-- the place of a number, counted from a
place : (a i n : ℕ) → a ≤ i → n ≡ a + (i - a) → n ≡ i
place a i n from e = omega (arith, from, e)

pub with-mark : (a : ℕ) (bs : List Bool) (i : ℕ) → a ≤ i → i - a < length bs → IsWith i (marked a bs) (marked a (slice_set bs (i - a) true))
with-mark a bs i from h = record { here = set-here a bs (i - a) i true (omega (arith, from)) h; others = λ j ne. set-else a bs (i - a) j true (λ e. ne (place a i j from e)) }

-- ---- several marks are cleared

-- the numbers have places
abbrev pub AreThere : ℕ → List Bool → List ℕ → Type 0
AreThere a bs is = (i : ℕ) → has is i ≡ true → (a ≤ i) × (i - a < length bs)

there-still : (a : ℕ) (bs : List Bool) (i : ℕ) (is : List ℕ) → AreThere a bs (i ∷ is) → AreThere a (slice_set bs (i - a) false) is
there-still a bs i is all k h =
    let t = all k (tail-has i is k h) in
    let below = t.1 in
    let same = length-set bs (i - a) false in
    (t.0, omega (arith, below, same))

pub cleared-others : (a : ℕ) (bs : List Bool) (is : List ℕ) → AreThere a bs is → (k : ℕ) → has is k ≡ false → has (marked a (with_marks false a bs is)) k ≡ has (marked a bs) k
cleared-others a bs [] all k lacks = refl
cleared-others a bs (i ∷ is) all k lacks =
    let t = all i (head-has i is) in
    cleared-others a (slice_set bs (i - a) false) is (there-still a bs i is all) k (lacks-rest i is k lacks)
    ∙ set-else a bs (i - a) k false (λ e. lacks-first i is k lacks (place a i k t.0 e))

pub cleared-gone : (a : ℕ) (bs : List Bool) (is : List ℕ) → AreThere a bs is → (k : ℕ) → has is k ≡ true → has (marked a (with_marks false a bs is)) k ≡ false
cleared-gone a bs [] all k there = absurd (by there)
  where
    by : false ≡ true → ⊥
    by e = cc
cleared-gone a bs (i ∷ is) all k there =
    let rest = there-still a bs i is all in
    elim (known (has is k)) [
      | inl later ↦ cleared-gone a (slice_set bs (i - a) false) is rest k later
      | inr lacks ↦ cleared-others a (slice_set bs (i - a) false) is rest k lacks ∙ here (elim (has-either (i ∷ []) is k there) [ inl one ↦ only-one i k one | inr later ↦ absurd (both later lacks) ])
    ]
  where
    both : has is k ≡ true → has is k ≡ false → ⊥
    both a b = cc

    here : k ≡ i → has (marked a (slice_set bs (i - a) false)) k ≡ false
    here e =
        let t = all i (head-has i is) in
        let from = t.0 in
        set-here a bs (i - a) k false (omega (arith, from, e)) t.1
