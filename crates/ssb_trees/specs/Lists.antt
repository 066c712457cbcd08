-- Lists of lists.
-- Source: own.
use Rattle.std.specs.Prelude.{List, [], ◌∷◌, ◌++◌}

-- lists one after the other
abbrev pub concat : {A : Type 0} → List (List A) → List A
concat [] = []
concat (xs ∷ rest) = xs ++ concat rest
