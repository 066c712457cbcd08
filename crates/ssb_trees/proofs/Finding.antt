-- The first of two lists.
use Rattle.std.proofs.Common.{◌≡◌, ℕ, ◌+◌, ◌<◌, Bool, true, false, cond, List, [], ◌∷◌, ◌++◌, length, get_or, drop, map, Option, Some, None, find, refl, sym, ap, ◌∙◌}
use Rattle.std.proofs.lemmas.List.{drop_more}
use Rattle.ssb_trees.specs.Lists.{concat}

step_some : {X : Type 0} (b : Bool) (x y : X) (r s : Option X) → (r ≡ Some y → s ≡ Some y) → cond b (Some x) r ≡ Some y → cond b (Some x) s ≡ Some y
step_some true x y r s h e = e
step_some false x y r s h e = h e

pub find_front : {X : Type 0} (p : X → Bool) (xs ys : List X) (x : X) → find p xs ≡ Some x → find p (xs ++ ys) ≡ Some x
find_front p [] ys x e = absurd cc
find_front p (y ∷ xs) ys x e = step_some (p y) y x (find p xs) (find p (xs ++ ys)) (find_front p xs ys x) e

step_none : {X : Type 0} (b : Bool) (x : X) (r s t : Option X) → (r ≡ None → s ≡ t) → cond b (Some x) r ≡ None → cond b (Some x) s ≡ t
step_none true x r s t h e = absurd cc
step_none false x r s t h e = h e

pub find_back : {X : Type 0} (p : X → Bool) (xs ys : List X) → find p xs ≡ None → find p (xs ++ ys) ≡ find p ys
find_back p [] ys e = refl
find_back p (y ∷ xs) ys e = step_none (p y) y (find p xs) (find p (xs ++ ys)) (find p ys) (find_back p xs ys) e

-- ---- a loop over parts, each of which has a list

-- what is left from the place i on
pub here : {X : Type 0} (xs : List X) (i : ℕ) (x : X) → i < length xs → x ≡ get_or xs i x → drop i xs ≡ x ∷ drop (i + 1) xs
here xs i x below e = drop_more xs i x below ∙ ap (λ y. y ∷ drop (i + 1) xs) (sym e)

module _ {X Y : Type 0} (p : Y → Bool) (f : X → List Y) where
  abbrev found_in : List X → Option Y
  found_in xs = find p (concat (map f xs))

  pub part_has : (xs : List X) (i : ℕ) (x : X) (y : Y) (whole : Option Y) → i < length xs → x ≡ get_or xs i x → find p (f x) ≡ Some y → found_in (drop i xs) ≡ whole → Some y ≡ whole
  part_has xs i x y whole below e h so_far = sym (find_front p (f x) (concat (map f (drop (i + 1) xs))) y h) ∙ sym (ap found_in (here xs i x below e)) ∙ so_far

  pub part_lacks : (xs : List X) (i : ℕ) (x : X) (whole : Option Y) → i < length xs → x ≡ get_or xs i x → find p (f x) ≡ None → found_in (drop i xs) ≡ whole → found_in (drop (i + 1) xs) ≡ whole
  part_lacks xs i x whole below e h so_far = sym (find_back p (f x) (concat (map f (drop (i + 1) xs))) h) ∙ sym (ap found_in (here xs i x below e)) ∙ so_far
