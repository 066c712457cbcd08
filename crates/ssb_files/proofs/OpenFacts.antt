-- Lists that agree place by place, with one item more.
use Rattle.std.proofs.Common.{◌++◌, [], ◌∷◌, List}
use Rattle.std.specs.List.{AllZip}

pub zip-more : {A B : Type 0} (R : A → B → Type 0) (xs : List A) (ys : List B) (x : A) (y : B) → AllZip R xs ys → R x y → AllZip R (xs ++ x ∷ []) (ys ++ y ∷ [])
zip-more R [] [] x y h r = (r, tt)
zip-more R [] (b ∷ ys) x y h r = absurd h
zip-more R (a ∷ xs) [] x y h r = absurd h
zip-more R (a ∷ xs) (b ∷ ys) x y h r = (h.0, zip-more R xs ys x y h.1 r)
