-- A list as far as a loop has come, or with its last taken away.
use Rattle.std.proofs.Common.{◌≡◌, ◌∙◌, ◌++◌, ◌∷◌, [], ◌+◌, ◌-◌, ℕ, List, Some, length, map, take, slice_get, sym, ap, append_assoc}
use Rattle.std.proofs.lemmas.List.{length-map, map-append, take-map, take_more}
use Rattle.std.proofs.lemmas.Option.{get_or_from_slice_get, slice_get_within}

pub one-more : {X : Type 0} (xs : List X) (i : ℕ) (x : X) → slice_get xs i ≡ Some x → take (i + 1) xs ≡ take i xs ++ x ∷ []
one-more xs i x at = take_more xs i x (slice_get_within xs i x at) ∙ ap (λ y. take i xs ++ y ∷ []) (get_or_from_slice_get xs i x x at)

-- a list that has those of another behind its own, as far as a loop has come
pub added-more : {X : Type 0} (own now after xs : List X) (i : ℕ) (x : X) → after ≡ now ++ x ∷ [] → now ≡ own ++ take i xs → slice_get xs i ≡ Some x → after ≡ own ++ take (i + 1) xs
added-more own now after xs i x e so_far at = e ∙ ap (λ ys. ys ++ x ∷ []) so_far ∙ append_assoc own (take i xs) (x ∷ []) ∙ ap (λ ys. own ++ ys) (sym (one-more xs i x at))

pub map-more : {X Y : Type 0} (f : X → Y) (xs : List X) (i : ℕ) (x : X) → slice_get xs i ≡ Some x → map f (take (i + 1) xs) ≡ map f (take i xs) ++ f x ∷ []
map-more f xs i x at = ap (map f) (one-more xs i x at) ∙ map-append f (take i xs) (x ∷ [])

-- what is kept for a list has lost its last, and so has the list
pub map-fewer : {X Y : Type 0} (f : X → Y) (kept after : List X) (seen : List Y) → after ≡ take (length kept - 1) kept → map f kept ≡ seen → map f after ≡ take (length seen - 1) seen
map-fewer f kept after seen fewer view =
    ap (map f) fewer ∙ sym (take-map f (length kept - 1) kept) ∙ ap (λ n. take (n - 1) (map f kept)) (sym (length-map kept f)) ∙ ap (λ ys. take (length ys - 1) ys) view
