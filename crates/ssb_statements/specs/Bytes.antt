-- Some bytes, or none.
-- For the contracts inside this crate.
use Rattle.std.specs.Prelude.{ℕ, Bool, true, false, List, [], ◌∷◌}

-- whether there are any bytes
abbrev pub has_any : List ℕ → Bool
has_any [] = false
has_any (b ∷ bs) = true

-- a byte, where this is so
abbrev pub if_so : Bool → ℕ → List ℕ
if_so true b = b ∷ []
if_so false b = []
