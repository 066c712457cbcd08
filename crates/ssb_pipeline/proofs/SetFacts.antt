-- Lists of different numbers, as sets.
use Rattle.std.proofs.Common.{◌≡◌, ◌∙◌, ◌++◌, ◌∷◌, [], ◌||◌, ◌≤◌, ℕ, Bool, true, false, true≢false, nat_eq, List, ◌⊎◌, inl, inr, refl, sym, ap, subst, arith, append_assoc, length, length-append}
use Rattle.std.specs.List.{AllByRecursion, IsDistinct}
use Rattle.std.specs.List.Sorted.{IsPermutation}
use Rattle.std.proofs.lemmas.Bool.{eqb-true, false_from_ne_true}
use Rattle.std.proofs.lemmas.List.Sorted.{IsPermutation-append_comm, IsPermutation-append_left, IsPermutation-append_right, IsPermutation-refl, IsPermutation-trans}
use Rattle.ssb_pipeline.specs.Part.{has}
use Rattle.ssb_pipeline.proofs.RangeFacts.{itself}

pub true-or : (b : Bool) → (b || true) ≡ true
true-or true = refl
true-or false = refl

-- ---- members of lists joined

pub has-left : (xs ys : List ℕ) (i : ℕ) → has xs i ≡ true → has (xs ++ ys) i ≡ true
has-left [] ys i h = absurd (true≢false (sym h))
has-left (x ∷ xs) ys i h = by (nat_eq i x) h (has-left xs ys i)
  where
    by : (b : Bool) → (b || has xs i) ≡ true → (has xs i ≡ true → has (xs ++ ys) i ≡ true) → (b || has (xs ++ ys) i) ≡ true
    by true e rest = refl
    by false e rest = rest e

pub has-right : (xs ys : List ℕ) (i : ℕ) → has ys i ≡ true → has (xs ++ ys) i ≡ true
has-right [] ys i h = h
has-right (x ∷ xs) ys i h = ap (λ b. nat_eq i x || b) (has-right xs ys i h) ∙ true-or (nat_eq i x)

pub has-either : (xs ys : List ℕ) (i : ℕ) → has (xs ++ ys) i ≡ true → (has xs i ≡ true) ⊎ (has ys i ≡ true)
has-either [] ys i h = inr h
has-either (x ∷ xs) ys i h = by (nat_eq i x) h (has-either xs ys i)
  where
    by : (b : Bool) → (b || has (xs ++ ys) i) ≡ true → (has (xs ++ ys) i ≡ true → (has xs i ≡ true) ⊎ (has ys i ≡ true)) → ((b || has xs i) ≡ true) ⊎ (has ys i ≡ true)
    by true e rest = inl refl
    by false e rest = rest e

pub has-last : (xs : List ℕ) (k i : ℕ) → has (xs ++ k ∷ []) i ≡ true → (has xs i ≡ true) ⊎ (i ≡ k)
has-last xs k i h = elim (has-either xs (k ∷ []) i h) [ inl l ↦ inl l | inr r ↦ inr (one (nat_eq i k) refl r) ]
  where
    one : (b : Bool) → nat_eq i k ≡ b → (b || false) ≡ true → i ≡ k
    one true e r = eqb-true i k e
    one false e r = absurd (true≢false (sym r))

-- ---- different numbers

none-last : (x : ℕ) (xs : List ℕ) (k : ℕ) → AllByRecursion (λ y. nat_eq x y ≡ false) xs → nat_eq x k ≡ false → AllByRecursion (λ y. nat_eq x y ≡ false) (xs ++ k ∷ [])
none-last x [] k h e = (e, tt)
none-last x (y ∷ ys) k h e = (h.0, none-last x ys k h.1 e)

lacks-head : (x : ℕ) (xs : List ℕ) (k : ℕ) → has (x ∷ xs) k ≡ false → (nat_eq x k ≡ false) × (has xs k ≡ false)
lacks-head x xs k h = by (nat_eq k x) refl h
  where
    by : (b : Bool) → nat_eq k x ≡ b → (b || has xs k) ≡ false → (nat_eq x k ≡ false) × (has xs k ≡ false)
    by true e r = absurd (true≢false r)
    by false e r = (false_from_ne_true (nat_eq x k) (λ s. true≢false (sym (itself k x (sym (eqb-true x k s))) ∙ e)), r)

-- one more that is not among them
pub distinct-last : (xs : List ℕ) (k : ℕ) → IsDistinct nat_eq xs → has xs k ≡ false → IsDistinct nat_eq (xs ++ k ∷ [])
unfolding IsDistinct
distinct-last [] k d h = (tt, tt)
distinct-last (x ∷ xs) k d h = let l = lacks-head x xs k h in (none-last x xs k d.0 l.0, distinct-last xs k d.1 l.1)

-- a list with one of its members apart
pub record Split (ys : List ℕ) (x : ℕ) : Type 0 where
  pub left : List ℕ
  pub right : List ℕ
  pub is : ys ≡ left ++ x ∷ right

split : (ys : List ℕ) (x : ℕ) → has ys x ≡ true → Split ys x
split [] x h = absurd (true≢false (sym h))
split (y ∷ ys) x h = by (nat_eq x y) refl h (split ys x)
  where
    by : (b : Bool) → nat_eq x y ≡ b → (b || has ys x) ≡ true → (has ys x ≡ true → Split ys x) → Split (y ∷ ys) x
    by true e r rest = record { left = []; right = ys; is = ap (λ z. z ∷ ys) (sym (eqb-true x y e)) }
    by false e r rest = let s = rest r in record { left = y ∷ s.left; right = s.right; is = ap (λ t. y ∷ t) s.is }

all-left : (P : ℕ → Type 0) (l r : List ℕ) (x : ℕ) → AllByRecursion P (l ++ x ∷ r) → AllByRecursion P (l ++ r)
all-left P [] r x h = h.1
all-left P (y ∷ l) r x h = (h.0, all-left P l r x h.1)

distinct-without : (l r : List ℕ) (x : ℕ) → IsDistinct nat_eq (l ++ x ∷ r) → IsDistinct nat_eq (l ++ r)
unfolding IsDistinct
distinct-without [] r x d = d.1
distinct-without (y ∷ l) r x d = (all-left (λ z. nat_eq y z ≡ false) l r x d.0, distinct-without l r x d.1)

none-has : (x : ℕ) (xs : List ℕ) → AllByRecursion (λ y. nat_eq x y ≡ false) xs → has xs x ≡ false
none-has x [] h = refl
none-has x (y ∷ xs) h = ap (λ b. b || has xs x) h.0 ∙ none-has x xs h.1

all-at : (P : ℕ → Type 0) (l r : List ℕ) (x : ℕ) → AllByRecursion P (l ++ x ∷ r) → P x
all-at P [] r x h = h.0
all-at P (y ∷ l) r x h = all-at P l r x h.1

-- the member apart is not among the others
lacks-apart : (l r : List ℕ) (x : ℕ) → IsDistinct nat_eq (l ++ x ∷ r) → has (l ++ r) x ≡ false
unfolding IsDistinct
lacks-apart [] r x d = none-has x r d.0
lacks-apart (y ∷ l) r x d =
    let other = all-at (λ z. nat_eq y z ≡ false) l r x d.0 in
    let flipped : nat_eq x y ≡ false = false_from_ne_true (nat_eq x y) (λ s. true≢false (sym (itself y x (sym (eqb-true x y s))) ∙ other)) in
    ap (λ b. b || has (l ++ r) x) flipped ∙ lacks-apart l r x d.1

-- ---- what is had of a list of numbers, number by number, is had of the set

head-has : (x : ℕ) (xs : List ℕ) → has (x ∷ xs) x ≡ true
head-has x xs = ap (λ b. b || has xs x) (itself x x refl)

tail-has : (x : ℕ) (xs : List ℕ) (i : ℕ) → has xs i ≡ true → has (x ∷ xs) i ≡ true
tail-has x xs i h = ap (λ b. nat_eq i x || b) h ∙ true-or (nat_eq i x)

other-than : (x : ℕ) (xs : List ℕ) (i : ℕ) → (i ≡ x → ⊥) → has (x ∷ xs) i ≡ true → has xs i ≡ true
other-than x xs i ne h = ap (λ b. b || has xs i) (sym (false_from_ne_true (nat_eq i x) (λ e. ne (eqb-true i x e)))) ∙ h

-- a member of a list is one of the others, where it is not the one apart
without : (l r : List ℕ) (x i : ℕ) → (i ≡ x → ⊥) → has (l ++ x ∷ r) i ≡ true → has (l ++ r) i ≡ true
without l r x i ne h = elim (has-either l (x ∷ r) i h) [ inl a ↦ has-left l r i a | inr b ↦ has-right l r i (other-than x r i ne b) ]

with-it : (l r : List ℕ) (x i : ℕ) → has (l ++ r) i ≡ true → has (l ++ x ∷ r) i ≡ true
with-it l r x i h = elim (has-either l r i h) [ inl a ↦ has-left l (x ∷ r) i a | inr b ↦ has-right l (x ∷ r) i (tail-has x r i b) ]

not-there : (xs : List ℕ) (x i : ℕ) → has xs x ≡ false → has xs i ≡ true → i ≡ x → ⊥
not-there xs x i gone there e = true≢false (sym there ∙ ap (has xs) e ∙ gone)

-- different numbers among others are no more than those
pub no-longer : (xs ys : List ℕ) → IsDistinct nat_eq xs → ((i : ℕ) → has xs i ≡ true → has ys i ≡ true) → length xs ≤ length ys
unfolding IsDistinct
no-longer [] ys d to = omega arith
no-longer (x ∷ xs) ys d to =
    let s = split ys x (to x (head-has x xs)) in
    let gone = none-has x xs d.0 in
    let rest = no-longer xs (s.left ++ s.right) d.1 (λ i h. without s.left s.right x i (not-there xs x i gone h) (subst (λ zs. has zs i ≡ true) s.is (to i (tail-has x xs i h)))) in
    let apart = length-append s.left (x ∷ s.right) in
    let others = length-append s.left s.right in
    let all = ap length s.is in
    omega (arith, rest, apart, others, all)

module _ {X : Type 0} (F : List ℕ → List X) (nil : F [] ≡ []) (cons : (i : ℕ) (is : List ℕ) → F (i ∷ is) ≡ F (i ∷ []) ++ F is) where
  joined : (xs ys : List ℕ) → F (xs ++ ys) ≡ F xs ++ F ys
  joined [] ys = sym (ap (λ t. t ++ F ys) nil)
  joined (x ∷ xs) ys = cons x (xs ++ ys) ∙ ap (λ t. F (x ∷ []) ++ t) (joined xs ys) ∙ sym (append_assoc (F (x ∷ [])) (F xs) (F ys)) ∙ ap (λ t. t ++ F ys) (sym (cons x xs))

  -- what is had of different numbers is no more than what is had of others that have them all
  pub no-more-of : (xs ys : List ℕ) → IsDistinct nat_eq xs → ((i : ℕ) → has xs i ≡ true → has ys i ≡ true) → length (F xs) ≤ length (F ys)
  unfolding IsDistinct
  no-more-of [] ys d to = let none = ap length nil in omega (arith, none)
  no-more-of (x ∷ xs) ys d to =
      let s = split ys x (to x (head-has x xs)) in
      let gone = none-has x xs d.0 in
      let rest = no-more-of xs (s.left ++ s.right) d.1 (λ i h. without s.left s.right x i (not-there xs x i gone h) (subst (λ zs. has zs i ≡ true) s.is (to i (tail-has x xs i h)))) in
      let here = ap length (cons x xs) ∙ length-append (F (x ∷ [])) (F xs) in
      let apart = ap length (joined s.left (x ∷ s.right)) ∙ length-append (F s.left) (F (x ∷ s.right)) in
      let one = ap length (cons x s.right) ∙ length-append (F (x ∷ [])) (F s.right) in
      let others = ap length (joined s.left s.right) ∙ length-append (F s.left) (F s.right) in
      let all = ap (λ zs. length (F zs)) s.is in
      omega (arith, rest, here, apart, one, others, all)

  moved : (A B C : List X) → IsPermutation (A ++ (B ++ C)) (B ++ (A ++ C))
  moved A B C =
      let both = IsPermutation-append_left C (A ++ B) (B ++ A) (IsPermutation-append_comm A B) in
      subst (λ t. IsPermutation t (B ++ (A ++ C))) (append_assoc A B C) (subst (IsPermutation ((A ++ B) ++ C)) (append_assoc B A C) both)

  pub same-set : (xs ys : List ℕ) → IsDistinct nat_eq xs → IsDistinct nat_eq ys → ((i : ℕ) → has xs i ≡ true → has ys i ≡ true) → ((i : ℕ) → has ys i ≡ true → has xs i ≡ true) → IsPermutation (F xs) (F ys)
  unfolding IsDistinct
  same-set [] [] dx dy to from = IsPermutation-refl (F [])
  same-set [] (y ∷ ys) dx dy to from = absurd (true≢false (sym (from y (head-has y ys))))
  same-set (x ∷ xs) ys dx dy to from =
      let s = split ys x (to x (head-has x xs)) in
      let d : IsDistinct nat_eq (s.left ++ x ∷ s.right) = subst (IsDistinct nat_eq) s.is dy in
      let gone = none-has x xs dx.0 in
      let apart = lacks-apart s.left s.right x d in
      let rest = same-set xs (s.left ++ s.right) dx.1 (distinct-without s.left s.right x d)
      (λ i h. without s.left s.right x i (not-there xs x i gone h) (subst (λ zs. has zs i ≡ true) s.is (to i (tail-has x xs i h))))
      (λ i h. other-than x xs i (not-there (s.left ++ s.right) x i apart h) (from i (subst (λ zs. has zs i ≡ true) (sym s.is) (with-it s.left s.right x i h)))) in
      let both = IsPermutation-append_right (F (x ∷ [])) (F xs) (F (s.left ++ s.right)) rest in
      let parts = subst (λ t. IsPermutation (F (x ∷ []) ++ F xs) (F (x ∷ []) ++ t)) (joined s.left s.right) both in
      let swapped = IsPermutation-trans _ _ _ parts (moved (F (x ∷ [])) (F s.left) (F s.right)) in
      let end : F s.left ++ (F (x ∷ []) ++ F s.right) ≡ F ys = ap (λ t. F s.left ++ t) (sym (cons x s.right)) ∙ sym (joined s.left (x ∷ s.right)) ∙ ap F (sym s.is) in
      subst (λ t. IsPermutation t (F ys)) (sym (cons x xs)) (subst (IsPermutation (F (x ∷ []) ++ F xs)) end swapped)
