-- Consecutive numbers, and which are among them.
use Rattle.std.proofs.Common.{◌≡◌, ◌∙◌, ◌++◌, ◌∷◌, [], ◌≤◌, ◌<◌, ◌+◌, ◌||◌, ℕ, zero, suc, Bool, true, false, true≢false, nat_eq, nat_le, nat_lt, ◌-◌, ◌⊎◌, inl, inr, refl, sym, ap, arith}
use Rattle.std.specs.List.{AllByRecursion, IsDistinct, range_with_len}
use Rattle.std.proofs.lemmas.Bool.{cases_lt, eq-eqb, eqb-true, false_from_ne_true, leb-true, lt-ltb, ltb-true}
use Rattle.ssb_pipeline.specs.Part.{has}

other : (i j : ℕ) → (i ≡ j → ⊥) → nat_eq i j ≡ false
other i j ne = false_from_ne_true (nat_eq i j) (λ e. ne (eqb-true i j e))

pub itself : (i j : ℕ) → i ≡ j → nat_eq i j ≡ true
itself i j e = eq-eqb i j e

not-less : (i a : ℕ) → i < a → i ≡ a → ⊥
not-less i a h e = omega (arith, h, e)

pub range-has : (a n i : ℕ) → a ≤ i → i < a + n → has (range_with_len a n) i ≡ true
range-has a zero i l h = absurd (omega (arith, l, h))
range-has a (suc n) i l h = elim (cases_lt a i) [
  | inl more ↦ ap (λ b. nat_eq i a || b) (range-has (a + 1) n i (omega (arith, more)) (omega (arith, h))) ∙ or-true (nat_eq i a)
  | inr same ↦ ap (λ b. b || has (range_with_len (a + 1) n) i) (itself i a (omega (arith, l, same)))
]
  where
    or-true : (b : Bool) → (b || true) ≡ true
    or-true true = refl
    or-true false = refl

pub range-lacks : (a n i : ℕ) → (i < a) ⊎ (a + n ≤ i) → has (range_with_len a n) i ≡ false
range-lacks a zero i h = refl
range-lacks a (suc n) i (inl l) =
    ap (λ b. b || has (range_with_len (a + 1) n) i) (other i a (not-less i a l)) ∙ range-lacks (a + 1) n i (inl (omega (arith, l)))
range-lacks a (suc n) i (inr g) =
    ap (λ b. b || has (range_with_len (a + 1) n) i) (other i a (beyond i a n g)) ∙ range-lacks (a + 1) n i (inr (omega (arith, g)))
  where
    beyond : (i a n : ℕ) → a + suc n ≤ i → i ≡ a → ⊥
    beyond i a n g e = omega (arith, g, e)

pub within-range : (a n i : ℕ) → has (range_with_len a n) i ≡ true → (a ≤ i) × (i < a + n)
within-range a n i h = (elim (cases_lt i a) [ inl l ↦ absurd (true≢false (sym h ∙ range-lacks a n i (inl l))) | inr g ↦ g ], elim (cases_lt i (a + n)) [ inl l ↦ l | inr g ↦ absurd (true≢false (sym h ∙ range-lacks a n i (inr g))) ])

pub beyond-range : (a n i : ℕ) → a ≤ i → has (range_with_len a n) i ≡ false → a + n ≤ i
beyond-range a n i l h = elim (cases_lt i (a + n)) [ inl b ↦ absurd (true≢false (sym (range-has a n i l b) ∙ h)) | inr g ↦ g ]

pub range-last : (a n m k : ℕ) → m ≡ suc n → k ≡ a + n → range_with_len a m ≡ range_with_len a n ++ k ∷ []
range-last a zero m k e h = let z : k ≡ a = omega (arith, h) in rw (e, z) refl
range-last a (suc n) m k e h = rw e (ap (λ t. a ∷ t) (range-last (a + 1) n (suc n) k refl (omega (arith, h))))

none-same : (x a n : ℕ) → x < a → AllByRecursion (λ y. nat_eq x y ≡ false) (range_with_len a n)
none-same x a zero h = tt
none-same x a (suc n) h = (other x a (not-less x a h), none-same x (a + 1) n (omega (arith, h)))

pub distinct-range : (a n : ℕ) → IsDistinct nat_eq (range_with_len a n)
unfolding IsDistinct
distinct-range a zero = tt
distinct-range a (suc n) = (none-same a (a + 1) n (omega arith), distinct-range (a + 1) n)

-- the place of a number among n numbers from a on, of which more may follow
pub record IsPlace (a n i p : ℕ) : Type 0 where
  pub from : a ≤ i
  pub is : i ≡ a + p
  pub below : p < n

pub place-in : (a n i r : ℕ) → r ≡ i → has (range_with_len a n) i ≡ true → IsPlace a n i (r - a)
place-in a n i r e h = let w = within-range a n i h in let l = w.0 in let b = w.1 in record { from = l; is = omega (arith, e, l); below = omega (arith, e, l, b) }

-- whether a number is among them is seen by its place
pub place-test : (a n i : ℕ) → a ≤ i → nat_lt (i - a) n ≡ has (range_with_len a n) i
place-test a n i l = elim (cases_lt i (a + n)) [
  | inl b ↦ lt-ltb (i - a) n (omega (arith, l, b)) ∙ sym (range-has a n i l b)
  | inr g ↦ false_from_ne_true (nat_lt (i - a) n) (λ e. beyond i a n l g (ltb-true (i - a) n e)) ∙ sym (range-lacks a n i (inr g))
]
  where
    beyond : (i a n : ℕ) → a ≤ i → a + n ≤ i → i - a < n → ⊥
    beyond i a n l g h = omega (arith, l, g, h)

-- a number before the first is not among them
pub before-test : (a n i : ℕ) → i < a → nat_le a i ≡ has (range_with_len a n) i
before-test a n i l = false_from_ne_true (nat_le a i) (λ e. before i a l (leb-true a i e)) ∙ sym (range-lacks a n i (inl l))
  where
    before : (i a : ℕ) → i < a → a ≤ i → ⊥
    before i a l h = omega (arith, l, h)
