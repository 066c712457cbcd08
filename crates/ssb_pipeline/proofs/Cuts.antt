-- Cut points that rise, from 0 on.
use Rattle.std.proofs.Common.{◌≡◌, ◌∙◌, ◌++◌, ◌∷◌, [], ◌≤◌, ◌<◌, ◌+◌, ◌-◌, ℕ, zero, suc, ◌⊎◌, inl, inr, refl, sym, ap, subst, arith}
use Rattle.std.specs.List.{flat_map, range_with_len}
use Rattle.std.proofs.lemmas.Bool.{cases_lt}
use Rattle.std.proofs.lemmas.Grind.{flat_map-append}
use Rattle.std.proofs.lemmas.List.{append-nil}
use Rattle.std.proofs.Math.Nat.{le_trans}
use Rattle.ssb_pipeline.specs.Morsels.{IsOneOf, LiesIn, piece, pieces}

-- n numbers and then m are n + m numbers
pub range-append : (a n m b k : ℕ) → b ≡ a + n → k ≡ n + m → range_with_len a n ++ range_with_len b m ≡ range_with_len a k
range-append a zero m b k e h = let z : b ≡ a = omega arith in let s : k ≡ m = omega arith in rw (z, s) refl
range-append a (suc n) m b k e h =
    let next : b ≡ a + 1 + n = omega arith in
    let many : k ≡ suc (n + m) = omega arith in
    rw many (ap (λ t. a ∷ t) (range-append (a + 1) n m b (n + m) next refl))

range-last : (k j : ℕ) → j ≡ suc k → range_with_len 0 j ≡ range_with_len 0 k ++ k ∷ []
range-last k j e = sym (range-append 0 k 1 k j (omega arith) (omega arith))

absurd-between : (a b x : ℕ) → x < a → a ≤ b → b ≤ x → ⊥
absurd-between a b x h k l = omega (arith, h, k, l)

less-or-last : (i k : ℕ) → i < suc k → (i < k) ⊎ (i ≡ k)
less-or-last i k h = elim (cases_lt i k) [ inl l ↦ inl l | inr g ↦ inr (omega (arith, h, g)) ]

below-more : (i k : ℕ) → i < k → i < suc k
below-more i k h = omega (arith, h)

last-below : (k : ℕ) → k < suc k
last-below k = omega arith

rest-of : (i k : ℕ) → i < k → (n : ℕ) × (k ≡ i + 1 + n)
rest-of i k h = (k - (i + 1), omega (arith, h))

module _ (cut : ℕ → ℕ) (begins : cut 0 ≡ 0) (rises : (i : ℕ) → cut i ≤ cut (i + 1)) where
  rising : (i n j : ℕ) → j ≡ i + n → cut i ≤ cut j
  rising i zero j e = let same : i ≡ j = omega (arith, e) in subst (λ m. cut i ≤ cut m) same (le_refl (cut i))
    where
      le_refl : (m : ℕ) → m ≤ m
      le_refl m = omega arith
  rising i (suc n) j e = let one : j ≡ i + n + 1 = omega (arith, e) in subst (λ m. cut i ≤ cut m) (sym one) (le_trans (rising i n (i + n) refl) (rises (i + n)))

  apart : (i k x : ℕ) → i < k → x < cut (i + 1) → cut k ≤ x → ⊥
  apart i k x lt here there = let r = rest-of i k lt in absurd-between (cut (i + 1)) (cut k) x here (rising (i + 1) r.0 k r.1) there

  -- no number lies in two pieces
  pub only-piece : (i k x : ℕ) → LiesIn cut x i → LiesIn cut x k → i ≡ k
  only-piece i k x a b = elim (cases_lt i k) [
    | inl less ↦ absurd (apart i k x less a.1 b.0)
    | inr more ↦ elim (cases_lt k i) [ inl less ↦ absurd (apart k i x less b.1 a.0) | inr most ↦ same i k more most ]
  ]
    where
      same : (a b : ℕ) → b ≤ a → a ≤ b → a ≡ b
      same a b h l = omega (arith, h, l)

  -- each number before the last cut point lies in one piece
  pub one-piece : (k x : ℕ) → x < cut k → IsOneOf k (LiesIn cut x)
  one-piece zero x lt = absurd (none x (subst (λ m. x < m) begins lt))
    where
      none : (m : ℕ) → m < 0 → ⊥
      none m h = omega (arith, h)
  one-piece (suc k) x lt = elim (cases_lt x (cut k)) [
    | inl before ↦
        let p = one-piece k x before in
        record {
          which = p.which;
          below = below-more p.which k p.below;
          here = p.here;
          only = λ i h at. elim (less-or-last i k h) [ inl l ↦ p.only i l at | inr e ↦ absurd (not-both x (cut k) before (subst (λ m. cut m ≤ x) e at.0)) ];
        }
    | inr behind ↦
        record {
          which = k;
          below = last-below k;
          here = (behind, subst (λ m. x < cut m) (plus-one k) lt);
          only = λ i h at. elim (less-or-last i k h) [ inl l ↦ absurd (apart i k x l at.1 behind) | inr e ↦ e ];
        }
  ]
    where
      not-both : (a b : ℕ) → a < b → b ≤ a → ⊥
      not-both a b h l = omega (arith, h, l)

      plus-one : (m : ℕ) → suc m ≡ m + 1
      plus-one m = omega arith

  -- the pieces one after the other are all numbers before the last cut point
  pub all-pieces : (k : ℕ) → pieces cut k ≡ range_with_len 0 (cut k)
  all-pieces zero = ap (range_with_len 0) (sym begins)
  all-pieces (suc k) =
      ap (flat_map (piece cut)) (range-last k (suc k) refl) ∙ flat_map-append (piece cut) (range_with_len 0 k) (k ∷ []) ∙ ap (λ t. t ++ (piece cut k ++ [])) (all-pieces k)
      ∙ ap (λ t. range_with_len 0 (cut k) ++ t) (append-nil (piece cut k)) ∙ whole (cut k) (cut (k + 1)) (cut (suc k)) (ap cut (plus-one k)) (rises k)
    where
      plus-one : (m : ℕ) → m + 1 ≡ suc m
      plus-one m = omega arith

      whole : (a b c : ℕ) → b ≡ c → a ≤ b → range_with_len 0 a ++ range_with_len a (b - a) ≡ range_with_len 0 c
      whole a b c e h = range-append 0 a (b - a) a c (omega arith) (omega (arith, e, h))
