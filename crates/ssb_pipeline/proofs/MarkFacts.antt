-- The numbers of marked places.
use Rattle.std.proofs.Common.{◌≡◌, ◌∙◌, ◌++◌, ◌∷◌, [], ◌≤◌, ◌<◌, ◌+◌, ◌-◌, ◌||◌, ◌⊎◌, inl, inr, ℕ, zero, suc, Bool, true, false, true≢false, nat_eq, List, length, None, Some, refl, sym, ap, subst, arith, append_assoc, length-append}
use Rattle.std.specs.Prelude.{slice_get, slice_set}
use Rattle.std.specs.List.{AllByRecursion, IsDistinct, range_with_len}
use Rattle.std.specs.List.Sorted.{IsPermutation}
use Rattle.std.proofs.lemmas.Bool.{eqb-true, false_from_ne_true}
use Rattle.std.proofs.lemmas.List.{append-nil, length-set}
use Rattle.std.proofs.lemmas.List.Sorted.{IsPermutation-append_comm, IsPermutation-append_left, IsPermutation-append_right, IsPermutation-refl, IsPermutation-trans}
use Rattle.ssb_pipeline.specs.Marks.{marked, with_marks}
use Rattle.ssb_pipeline.specs.Part.{has}
use Rattle.ssb_pipeline.proofs.RangeFacts.{itself}

-- a marked number is that of a marked place
pub place-of : (a : ℕ) (bs : List Bool) (i : ℕ) → has (marked a bs) i ≡ true → (k : ℕ) × (i ≡ a + k) × (slice_get bs k ≡ Some true)
place-of a [] i h = absurd (true≢false (sym h))
place-of a (true ∷ bs) i h = by (nat_eq i a) refl (place-of (a + 1) bs i)
  where
    by : (b : Bool) → nat_eq i a ≡ b → (has (marked (a + 1) bs) i ≡ true → (k : ℕ) × (i ≡ a + 1 + k) × (slice_get bs k ≡ Some true)) → (k : ℕ) × (i ≡ a + k) × (slice_get (true ∷ bs) k ≡ Some true)
    by true e rest = let same = eqb-true i a e in (0, omega (arith, same), refl)
    by false e rest = let r = rest (sym (ap (λ b. b || has (marked (a + 1) bs) i) e) ∙ h) in let at = r.1 in (suc r.0, omega (arith, at), r.2)
place-of a (false ∷ bs) i h = let r = place-of (a + 1) bs i h in let at = r.1 in (suc r.0, omega (arith, at), r.2)

-- the number of a marked place is marked
pub marked-has : (a : ℕ) (bs : List Bool) (k i : ℕ) → i ≡ a + k → slice_get bs k ≡ Some true → has (marked a bs) i ≡ true
marked-has a [] k i e h = cc h
marked-has a (true ∷ bs) zero i e h = ap (λ b. b || has (marked (a + 1) bs) i) (itself i a (omega (arith, e)))
marked-has a (false ∷ bs) zero i e h = let no : false ≡ true = cc in absurd (true≢false (sym no))
marked-has a (true ∷ bs) (suc k) i e h = ap (λ b. nat_eq i a || b) (marked-has (a + 1) bs k i (omega (arith, e)) h) ∙ or-true (nat_eq i a)
  where
    or-true : (b : Bool) → (b || true) ≡ true
    or-true true = refl
    or-true false = refl
marked-has a (false ∷ bs) (suc k) i e h = marked-has (a + 1) bs k i (omega (arith, e)) h

-- the number of a place that is not marked is not
pub marked-lacks : (a : ℕ) (bs : List Bool) (k i : ℕ) → i ≡ a + k → slice_get bs k ≡ Some false → has (marked a bs) i ≡ false
marked-lacks a bs k i e h = false_from_ne_true (has (marked a bs) i) (λ m.
    let r = place-of a bs i m in
    let at = r.1 in
    let same : r.0 ≡ k = omega (arith, e, at) in
    let both : Some false ≡ Some true = sym h ∙ ap (slice_get bs) (sym same) ∙ r.2 in
    let no : false ≡ true = cc in
    true≢false (sym no))

-- a number is marked as its place is
pub mark-is : (a : ℕ) (bs : List Bool) (k i : ℕ) (b : Bool) → i ≡ a + k → slice_get bs k ≡ Some b → b ≡ has (marked a bs) i
mark-is a bs k i true e h = sym (marked-has a bs k i e h)
mark-is a bs k i false e h = sym (marked-lacks a bs k i e h)

pub mark-none : (a : ℕ) (bs : List Bool) (k i : ℕ) → i ≡ a + k → slice_get bs k ≡ None → false ≡ has (marked a bs) i
mark-none a bs k i e h = sym (false_from_ne_true (has (marked a bs) i) (λ m.
    let r = place-of a bs i m in
    let at = r.1 in
    let same : r.0 ≡ k = omega (arith, e, at) in
    let both : None ≡ Some true = sym h ∙ ap (slice_get bs) (sym same) ∙ r.2 in
    cc both))

pub mark-before : (a : ℕ) (bs : List Bool) (i : ℕ) → i < a → false ≡ has (marked a bs) i
mark-before a bs i l = sym (false_from_ne_true (has (marked a bs) i) (λ m. let r = place-of a bs i m in let at = r.1 in absurd (omega (arith, l, at))))

none-same : (x a : ℕ) (bs : List Bool) → x < a → AllByRecursion (λ y. nat_eq x y ≡ false) (marked a bs)
none-same x a [] h = tt
none-same x a (true ∷ bs) h = (false_from_ne_true (nat_eq x a) (λ e. less x a h (eqb-true x a e)), none-same x (a + 1) bs (omega (arith, h)))
  where
    less : (x a : ℕ) → x < a → x ≡ a → ⊥
    less x a h e = omega (arith, h, e)
none-same x a (false ∷ bs) h = none-same x (a + 1) bs (omega (arith, h))

pub distinct-marked : (a : ℕ) (bs : List Bool) → IsDistinct nat_eq (marked a bs)
unfolding IsDistinct
distinct-marked a [] = tt
distinct-marked a (true ∷ bs) = (none-same a (a + 1) bs (omega arith), distinct-marked (a + 1) bs)
distinct-marked a (false ∷ bs) = distinct-marked (a + 1) bs

-- ---- several marks

-- the place of a number is not marked
pub record IsFreePlace (a : ℕ) (bs : List Bool) (i : ℕ) : Type 0 where
  pub from : a ≤ i
  pub free : slice_get bs (i - a) ≡ Some false

abbrev pub AreFree : ℕ → List Bool → List ℕ → Type 0
AreFree a bs is = (i : ℕ) → has is i ≡ true → IsFreePlace a bs i

set-other : (bs : List Bool) (p q : ℕ) (b : Bool) → (q ≡ p → ⊥) → slice_get (slice_set bs p b) q ≡ slice_get bs q
set-other [] p q b n = refl
set-other (x ∷ bs) zero zero b n = absurd (n refl)
set-other (x ∷ bs) zero (suc q) b n = refl
set-other (x ∷ bs) (suc p) zero b n = refl
set-other (x ∷ bs) (suc p) (suc q) b n = set-other bs p q b (λ e. n (ap suc e))

pub lacks-each : (i : ℕ) (is : List ℕ) → AllByRecursion (λ y. nat_eq i y ≡ false) is → (k : ℕ) → has is k ≡ true → k ≡ i → ⊥
lacks-each i [] d k h e = true≢false (sym h)
lacks-each i (x ∷ is) d k h e = by (λ r. lacks-each i is d.1 k r e) (nat_eq k x) refl h
  where
    by : (has is k ≡ true → ⊥) → (b : Bool) → nat_eq k x ≡ b → (b || has is k) ≡ true → ⊥
    by rest true is_x r = true≢false (sym (itself i x (sym e ∙ eqb-true k x is_x)) ∙ d.0)
    by rest false other r = rest r

still-free : (a : ℕ) (bs : List Bool) (i : ℕ) (is : List ℕ) → AreFree a bs (i ∷ is) → AllByRecursion (λ y. nat_eq i y ≡ false) is → AreFree a (slice_set bs (i - a) true) is
still-free a bs i is free d k h =
    let f = free k (ap (λ b. nat_eq k i || b) h ∙ or-true (nat_eq k i)) in
    let g = free i (ap (λ b. b || has is i) (itself i i refl)) in
    let from = f.from in
    let here = g.from in
    record { from = from; free = set-other bs (i - a) (k - a) true (λ e. lacks-each i is d k h (omega (arith, e, from, here))) ∙ f.free }
  where
    or-true : (b : Bool) → (b || true) ≡ true
    or-true true = refl
    or-true false = refl

pub length-with : (b : Bool) (a : ℕ) (bs : List Bool) (is : List ℕ) → length (with_marks b a bs is) ≡ length bs
length-with b a bs [] = refl
length-with b a bs (i ∷ is) = length-with b a (slice_set bs (i - a) b) is ∙ length-set bs (i - a) b

pub with-last : (b : Bool) (a : ℕ) (bs : List Bool) (is : List ℕ) (i : ℕ) → with_marks b a bs (is ++ i ∷ []) ≡ slice_set (with_marks b a bs is) (i - a) b
with-last b a bs [] i = refl
with-last b a bs (x ∷ is) i = with-last b a (slice_set bs (x - a) b) is i

set-within : (bs : List Bool) (q r : ℕ) → slice_get (slice_set bs q true) r ≡ Some true → (r ≡ q) ⊎ (slice_get bs r ≡ Some true)
set-within [] q r e = inr e
set-within (b ∷ bs) zero zero e = inl refl
set-within (b ∷ bs) zero (suc r) e = inr e
set-within (b ∷ bs) (suc q) zero e = inr e
set-within (b ∷ bs) (suc q) (suc r) e = elim (set-within bs q r e) [ inl same ↦ inl (ap (λ n. suc n) same) | inr there ↦ inr there ]

-- what is marked then was marked, or is the place of one of them
pub with-within : (a : ℕ) (bs : List Bool) (is : List ℕ) (r : ℕ) → slice_get (with_marks true a bs is) r ≡ Some true → ((i : ℕ) × (has is i ≡ true) × (r ≡ i - a)) ⊎ (slice_get bs r ≡ Some true)
with-within a bs [] r e = inr e
with-within a bs (i ∷ is) r e =
    elim (with-within a (slice_set bs (i - a) true) is r e) [
      | inl some ↦ inl (some.0, ap (λ b. nat_eq some.0 i || b) some.1 ∙ or-true (nat_eq some.0 i), some.2)
      | inr there ↦ elim (set-within bs (i - a) r there) [ inl same ↦ inl (i, ap (λ b. b || has is i) (itself i i refl), same) | inr before ↦ inr before ]
    ]
  where
    or-true : (b : Bool) → (b || true) ≡ true
    or-true true = refl
    or-true false = refl

-- ---- what is had of a list of numbers, number by number

module _ {X : Type 0} (F : List ℕ → List X) (nil : F [] ≡ []) (cons : (i : ℕ) (is : List ℕ) → F (i ∷ is) ≡ F (i ∷ []) ++ F is) where
  -- one place more is marked
  pub one-more : (a : ℕ) (bs : List Bool) (k i : ℕ) → i ≡ a + k → slice_get bs k ≡ Some false → IsPermutation (F (marked a bs) ++ F (i ∷ [])) (F (marked a (slice_set bs k true)))
  one-more a [] k i e h = cc h
  one-more a (true ∷ bs) zero i e h = let no : true ≡ false = cc in absurd (true≢false no)
  one-more a (false ∷ bs) zero i e h =
      let here : i ≡ a = omega (arith, e) in
      subst (λ n. IsPermutation (F (marked (a + 1) bs) ++ F (n ∷ [])) (F (a ∷ marked (a + 1) bs))) (sym here)
      (subst (IsPermutation (F (marked (a + 1) bs) ++ F (a ∷ []))) (sym (cons a (marked (a + 1) bs))) (IsPermutation-append_comm (F (marked (a + 1) bs)) (F (a ∷ []))))
  one-more a (true ∷ bs) (suc k) i e h =
      let rest = one-more (a + 1) bs k i (omega (arith, e)) h in
      let left : F (a ∷ marked (a + 1) bs) ++ F (i ∷ []) ≡ F (a ∷ []) ++ (F (marked (a + 1) bs) ++ F (i ∷ [])) =
      ap (λ t. t ++ F (i ∷ [])) (cons a (marked (a + 1) bs)) ∙ append_assoc (F (a ∷ [])) (F (marked (a + 1) bs)) (F (i ∷ [])) in
      let both = IsPermutation-append_right (F (a ∷ [])) (F (marked (a + 1) bs) ++ F (i ∷ [])) (F (marked (a + 1) (slice_set bs k true))) rest in
      subst (λ t. IsPermutation t (F (a ∷ marked (a + 1) (slice_set bs k true)))) (sym left) (subst (IsPermutation (F (a ∷ []) ++ (F (marked (a + 1) bs) ++ F (i ∷ [])))) (sym (cons a (marked (a + 1) (slice_set bs k true)))) both)
  one-more a (false ∷ bs) (suc k) i e h = one-more (a + 1) bs k i (omega (arith, e)) h

  -- some places more are marked
  pub many-more : (a : ℕ) (bs : List Bool) (is : List ℕ) → AreFree a bs is → IsDistinct nat_eq is → IsPermutation (F (marked a bs) ++ F is) (F (marked a (with_marks true a bs is)))
  unfolding IsDistinct
  many-more a bs [] free d = subst (λ t. IsPermutation t (F (marked a bs))) (sym (ap (λ z. F (marked a bs) ++ z) nil ∙ append-nil (F (marked a bs)))) (IsPermutation-refl (F (marked a bs)))
  many-more a bs (i ∷ is) free d =
      let f = free i (ap (λ b. b || has is i) (itself i i refl)) in
      let from = f.from in
      let after = slice_set bs (i - a) true in
      let one = one-more a bs (i - a) i (omega (arith, from)) f.free in
      let rest = many-more a after is (still-free a bs i is free d.0) d.1 in
      let both = IsPermutation-append_left (F is) (F (marked a bs) ++ F (i ∷ [])) (F (marked a after)) one in
      let left : F (marked a bs) ++ F (i ∷ is) ≡ (F (marked a bs) ++ F (i ∷ [])) ++ F is = ap (λ z. F (marked a bs) ++ z) (cons i is) ∙ sym (append_assoc (F (marked a bs)) (F (i ∷ [])) (F is)) in
      subst (λ t. IsPermutation t (F (marked a (with_marks true a after is)))) (sym left) (IsPermutation-trans _ _ _ both rest)

  -- what is marked is no more than the whole
  pub no-more : (a : ℕ) (bs : List Bool) → length (F (marked a bs)) ≤ length (F (range_with_len a (length bs)))
  no-more a [] = omega arith
  no-more a (true ∷ bs) =
      let rest = no-more (a + 1) bs in
      let left = ap length (cons a (marked (a + 1) bs)) ∙ length-append (F (a ∷ [])) (F (marked (a + 1) bs)) in
      let right = ap length (cons a (range_with_len (a + 1) (length bs))) ∙ length-append (F (a ∷ [])) (F (range_with_len (a + 1) (length bs))) in
      omega (arith, rest, left, right)
  no-more a (false ∷ bs) =
      let rest = no-more (a + 1) bs in
      let right = ap length (cons a (range_with_len (a + 1) (length bs))) ∙ length-append (F (a ∷ [])) (F (range_with_len (a + 1) (length bs))) in
      omega (arith, rest, right)
