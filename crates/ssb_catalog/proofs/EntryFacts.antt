-- What the words of a record are.
use Rattle.std.proofs.Common.{◌≡◌, ◌&&◌, ℕ, Bool, true, false, List, length, refl}
use Rattle.std.specs.Prelude.{nat_le}
use Rattle.ssb_terms.specs.Names.{is_name}
use Rattle.ssb_catalog.specs.Catalog.{is_short_name}

and-first : (a b : Bool) → (a && b) ≡ true → a ≡ true
and-first true b e = refl
and-first false b e = cc e

pub short_is_name : (word : List ℕ) → is_short_name word ≡ true → is_name word ≡ true
short_is_name word e = and-first (is_name word) (nat_le (length word) 128) e
