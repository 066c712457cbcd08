-- The first name that passes a test, of the first operand that has one.
use Rattle.std.proofs.Common.{◌≡◌, ◌⊎◌, Bool, true, false, cond, ◌||◌, List, [], ◌∷◌, ◌++◌, map, Option, Some, None, find, is_some, refl, ap, ◌∙◌, inl, inr}
use Rattle.std.specs.List.{list_any}
use Rattle.ssb_trees.specs.Lists.{concat}

skip : {X : Type 0} (b : Bool) (x : X) (t : Bool) (r s : Option X) → (t ≡ false → r ≡ s) → (b || t) ≡ false → cond b (Some x) r ≡ s
skip true x t r s h e = absurd cc
skip false x t r s h e = h e

-- what is found is behind a list in which none passes
behind : {X : Type 0} (p : X → Bool) (xs ys : List X) → list_any p xs ≡ false → find p (xs ++ ys) ≡ find p ys
behind p [] ys e = refl
behind p (x ∷ xs) ys e = skip (p x) x (list_any p xs) (find p (xs ++ ys)) (find p ys) (behind p xs ys) e

keep : {X : Type 0} (b : Bool) (x : X) (t : Bool) (r s : Option X) → (t ≡ true → r ≡ s) → (b || t) ≡ true → cond b (Some x) r ≡ cond b (Some x) s
keep true x t r s h e = refl
keep false x t r s h e = h e

-- or in a list in which some pass
within : {X : Type 0} (p : X → Bool) (xs ys : List X) → list_any p xs ≡ true → find p (xs ++ ys) ≡ find p xs
within p [] ys e = absurd cc
within p (x ∷ xs) ys e = keep (p x) x (list_any p xs) (find p (xs ++ ys)) (find p xs) (within p xs ys) e

none_is : {X : Type 0} (b : Bool) (x : X) (r : Option X) → cond b (Some x) r ≡ None → (b ≡ false) × (r ≡ None)
none_is true x r e = absurd cc
none_is false x r e = (refl, e)

one_is : {X : Type 0} (b : Bool) (x y : X) (r : Option X) → cond b (Some x) r ≡ Some y → ((b ≡ true) × (x ≡ y)) ⊎ ((b ≡ false) × (r ≡ Some y))
one_is true x y r e = inl (refl, cc)
one_is false x y r e = inr (refl, e)

one_some : {X : Type 0} (b : Bool) (x : X) (r : Option X) (t : Bool) → is_some r ≡ t → is_some (cond b (Some x) r) ≡ (b || t)
one_some true x r t e = refl
one_some false x r t e = e

-- some pass where one is found
pub some_found : {X : Type 0} (p : X → Bool) (xs : List X) → is_some (find p xs) ≡ list_any p xs
some_found p [] = refl
some_found p (x ∷ xs) = one_some (p x) x (find p xs) (list_any p xs) (some_found p xs)

pub none_both : {X : Type 0} (p : X → Bool) (xs ys : List X) → find p (xs ++ ys) ≡ None → (find p xs ≡ None) × (find p ys ≡ None)
none_both p [] ys e = (refl, e)
none_both p (x ∷ xs) ys e =
    let h = none_is (p x) x (find p (xs ++ ys)) e in
    let r = none_both p xs ys h.1 in
    (ap (λ b. cond b (Some x) (find p xs)) h.0 ∙ r.0, r.1)

module _ {X Y : Type 0} (p : Y → Bool) (f : X → List Y) where
  abbrev has : X → Bool
  has x = list_any p (f x)

  pub none_found : (xs : List X) → find has xs ≡ None → find p (concat (map f xs)) ≡ None
  none_found [] e = refl
  none_found (x ∷ xs) e =
      let h = none_is (has x) x (find has xs) e in
      behind p (f x) (concat (map f xs)) h.0 ∙ none_found xs h.1

  pub one_found : (xs : List X) (y : X) → find has xs ≡ Some y → find p (concat (map f xs)) ≡ find p (f y)
  one_found [] y e = absurd cc
  one_found (x ∷ xs) y e =
      elim (one_is (has x) x y (find has xs) e) as (λ _. find p (f x ++ concat (map f xs)) ≡ find p (f y)) [
        | inl h ↦ within p (f x) (concat (map f xs)) h.0 ∙ ap (λ z. find p (f z)) h.1
        | inr h ↦ behind p (f x) (concat (map f xs)) h.0 ∙ one_found xs y h.1
      ]
