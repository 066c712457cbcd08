-- A walk along a list: what its rest still has to do.
use Rattle.std.proofs.Common.{◌≡◌, ◌+◌, ◌<◌, ◌++◌, ℕ, zero, suc, Bool, true, List, [], ◌∷◌, length, map, drop, get_or, refl, append_assoc, add-one}
use Rattle.std.proofs.Math.Seq.{drop-cons}
use Rattle.std.specs.List.{list_all}
use Rattle.std.proofs.lemmas.Bool.{and_parts}

pub all-here : {X : Type 0} (p : X → Bool) (xs : List X) (k : ℕ) (d : X) → k < length xs → list_all p (drop k xs) ≡ true → p (get_or xs k d) ≡ true
all-here p xs k d below h = (and_parts (p (get_or xs k d)) _ (rw (drop-cons xs k d below) at h)).0

rest-suc : {X : Type 0} (p : X → Bool) (xs : List X) (k : ℕ) → list_all p (drop k xs) ≡ true → list_all p (drop (suc k) xs) ≡ true
rest-suc p [] zero h = refl
rest-suc p [] (suc k) h = refl
rest-suc p (x ∷ xs) zero h = (and_parts (p x) _ h).1
rest-suc p (x ∷ xs) (suc k) h = rest-suc p xs k h

pub all-rest : {X : Type 0} (p : X → Bool) (xs : List X) (k : ℕ) → list_all p (drop k xs) ≡ true → list_all p (drop (k + 1) xs) ≡ true
all-rest p xs k h = rw add-one (rest-suc p xs k h)

-- what was made of the front, with what the rest gives, is what the whole gives
pub made-more : {X Y : Type 0} (f : X → Y) (xs : List X) (k : ℕ) (d : X) (made : List Y) (y : Y) → k < length xs → y ≡ f (get_or xs k d) → made ++ map f (drop k xs) ≡ map f xs
    → (made ++ y ∷ []) ++ map f (drop (k + 1) xs) ≡ map f xs
made-more f xs k d made y below is h = rw (is, add-one, append_assoc) (rw (drop-cons xs k d below) at h)
