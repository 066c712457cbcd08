-- Members of lists of numbers, and of what is filtered out of them.
use Rattle.std.proofs.Common.{◌≡◌, ◌∙◌, ◌++◌, ◌∷◌, [], ◌||◌, ℕ, Bool, true, false, true≢false, not, nat_eq, List, ◌⊎◌, inl, inr, refl, sym, ap, subst}
use Rattle.std.specs.List.{filter}
use Rattle.std.proofs.lemmas.Bool.{eqb-true, false_from_ne_true}
use Rattle.std.proofs.lemmas.List.{append-nil}
use Rattle.std.proofs.lemmas.List.Elements.{filter-append}
use Rattle.ssb_pipeline.specs.Batch.{without_all}
use Rattle.ssb_pipeline.specs.Part.{IsWithout, has}
use Rattle.ssb_pipeline.proofs.RangeFacts.{itself}
use Rattle.ssb_pipeline.proofs.SetFacts.{has-either, true-or}

-- ---- truth values

pub known : (b : Bool) → (b ≡ true) ⊎ (b ≡ false)
known true = inl refl
known false = inr refl

pub not-both : (b : Bool) → b ≡ true → b ≡ false → ⊥
not-both b t f = true≢false (sym t ∙ f)

pub not-is : (b : Bool) → not b ≡ true → b ≡ false
not-is true e = absurd (true≢false (sym e))
not-is false e = refl

pub neither : (a b : Bool) → not (a || b) ≡ true → (a ≡ false) × (b ≡ false)
neither true b e = absurd (true≢false (sym e))
neither false true e = absurd (true≢false (sym e))
neither false false e = (refl, refl)

pub neither-is : (a b : Bool) → a ≡ false → b ≡ false → not (a || b) ≡ true
neither-is a b e f = rw (e, f) refl

pub either-is : (a b : Bool) → (a ≡ true) ⊎ (b ≡ true) → not (a || b) ≡ false
either-is a b (inl e) = rw e refl
either-is a b (inr e) = rw (e, true-or a) refl

-- ---- members

pub head-has : (x : ℕ) (xs : List ℕ) → has (x ∷ xs) x ≡ true
head-has x xs = ap (λ b. b || has xs x) (itself x x refl)

pub tail-has : (x : ℕ) (xs : List ℕ) (i : ℕ) → has xs i ≡ true → has (x ∷ xs) i ≡ true
tail-has x xs i h = ap (λ b. nat_eq i x || b) h ∙ true-or (nat_eq i x)

pub only-one : (k i : ℕ) → has (k ∷ []) i ≡ true → i ≡ k
only-one k i r = one (nat_eq i k) refl r
  where
    one : (b : Bool) → nat_eq i k ≡ b → (b || false) ≡ true → i ≡ k
    one true e r = eqb-true i k e
    one false e r = absurd (true≢false (sym r))

pub differs : (k i : ℕ) → nat_eq k i ≡ false → k ≡ i → ⊥
differs k i e s = not-both (nat_eq k i) (itself k i s) e

-- what the list has not is neither its first nor among the others
pub lacks-first : (x : ℕ) (xs : List ℕ) (k : ℕ) → has (x ∷ xs) k ≡ false → k ≡ x → ⊥
lacks-first x xs k h e = not-both (has (x ∷ xs) k) (subst (λ n. has (x ∷ xs) n ≡ true) (sym e) (head-has x xs)) h

pub lacks-rest : (x : ℕ) (xs : List ℕ) (k : ℕ) → has (x ∷ xs) k ≡ false → has xs k ≡ false
lacks-rest x xs k h = false_from_ne_true (has xs k) (λ s. not-both (has (x ∷ xs) k) (tail-has x xs k s) h)

-- ---- what is kept

pub filter-has : (f : ℕ → Bool) (xs : List ℕ) (i : ℕ) → has (filter f xs) i ≡ true → (has xs i ≡ true) × (f i ≡ true)
filter-has f [] i h = absurd (true≢false (sym h))
filter-has f (x ∷ xs) i h = by (f x) refl (filter-has f xs i)
  where
    by : (b : Bool) → f x ≡ b → (has (filter f xs) i ≡ true → (has xs i ≡ true) × (f i ≡ true)) → (has (x ∷ xs) i ≡ true) × (f i ≡ true)
    by true e rest =
        let h' : has (x ∷ filter f xs) i ≡ true = rw e at h in
        elim (has-either (x ∷ []) (filter f xs) i h') [
          | inl l ↦ let is = only-one x i l in (subst (λ k. has (x ∷ xs) k ≡ true) (sym is) (head-has x xs), ap f is ∙ e)
          | inr r ↦ let k = rest r in (tail-has x xs i k.0, k.1)
        ]
    by false e rest = let h' : has (filter f xs) i ≡ true = rw e at h in let k = rest h' in (tail-has x xs i k.0, k.1)

pub filter-keeps : (f : ℕ → Bool) (xs : List ℕ) (i : ℕ) → has xs i ≡ true → f i ≡ true → has (filter f xs) i ≡ true
filter-keeps f [] i h k = h
filter-keeps f (x ∷ xs) i h k = by (f x) refl (filter-keeps f xs i)
  where
    by : (b : Bool) → f x ≡ b → (has xs i ≡ true → f i ≡ true → has (filter f xs) i ≡ true) → has (filter f (x ∷ xs)) i ≡ true
    by true e rest = rw e (elim (has-either (x ∷ []) xs i h) [
      | inl l ↦ subst (λ n. has (n ∷ filter f xs) i ≡ true) (only-one x i l) (head-has i (filter f xs))
      | inr r ↦ tail-has x (filter f xs) i (rest r k)
    ])
    by false e rest = rw e (elim (has-either (x ∷ []) xs i h) [
      | inl l ↦ absurd (not-both (f i) k (ap f (only-one x i l) ∙ e))
      | inr r ↦ rest r k
    ])

pub filter-same : (f g : ℕ → Bool) (xs : List ℕ) → ((k : ℕ) → has xs k ≡ true → f k ≡ g k) → filter f xs ≡ filter g xs
filter-same f g [] h = refl
filter-same f g (x ∷ xs) h = by (g x) (h x (head-has x xs)) refl (filter-same f g xs (λ k there. h k (tail-has x xs k there)))
  where
    by : (b : Bool) → f x ≡ g x → g x ≡ b → filter f xs ≡ filter g xs → filter f (x ∷ xs) ≡ filter g (x ∷ xs)
    by true e d r = rw (e, d) (ap (λ t. x ∷ t) r)
    by false e d r = rw (e, d) r

pub filter-all : (f : ℕ → Bool) (xs : List ℕ) → ((k : ℕ) → has xs k ≡ true → f k ≡ true) → filter f xs ≡ xs
filter-all f [] h = refl
filter-all f (x ∷ xs) h = rw (h x (head-has x xs)) (ap (λ t. x ∷ t) (filter-all f xs (λ k there. h k (tail-has x xs k there))))

pub filter-none : (f : ℕ → Bool) (xs : List ℕ) → ((k : ℕ) → has xs k ≡ true → f k ≡ false) → filter f xs ≡ []
filter-none f [] h = refl
filter-none f (x ∷ xs) h = rw (h x (head-has x xs)) (filter-none f xs (λ k there. h k (tail-has x xs k there)))

-- ---- without one number

abbrev pub without : ℕ → List ℕ → List ℕ
without i xs = filter (λ k. not (nat_eq k i)) xs

pub without-is : (i : ℕ) (xs : List ℕ) → IsWithout i xs (without i xs)
without-is i xs = record {
  gone = false_from_ne_true (has (without i xs) i) (λ h. not-both (nat_eq i i) (itself i i refl) (not-is (nat_eq i i) (filter-has f xs i h).1));
  others = λ k ne. elim (known (has xs k)) [
    | inl there ↦ filter-keeps f xs k there (ap not (false_from_ne_true (nat_eq k i) (λ e. ne (eqb-true k i e)))) ∙ sym there
    | inr lacks ↦ false_from_ne_true (has (without i xs) k) (λ h. not-both (has xs k) (filter-has f xs k h).0 lacks) ∙ sym lacks
  ];
}
  where
    f : ℕ → Bool
    f k = not (nat_eq k i)

-- ---- without some

-- got in one hold and brought back in another, a batch leaves what is due as it was
pub as-before : (is due : List ℕ) → ((k : ℕ) → has is k ≡ true → has due k ≡ false) → without_all is (due ++ is) ≡ due
as-before is due new =
    let f : ℕ → Bool = λ k. not (has is k) in
    let old : filter f due ≡ due = filter-all f due (λ k there. ap not (false_from_ne_true (has is k) (λ s. not-both (has due k) there (new k s)))) in
    filter-append f due is ∙ ap (λ t. filter f due ++ t) (filter-none f is (λ k there. ap not there)) ∙ append-nil (filter f due) ∙ old
