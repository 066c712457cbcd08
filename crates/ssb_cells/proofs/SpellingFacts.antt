-- A dictionary's texts, and the strings that spell them.
use Rattle.std.proofs.Common.{◌≡◌, ◌++◌, ◌||◌, ◌+◌, ℕ, Bool, true, false, not, bytes_eq, String, string_bytes, List, [], ◌∷◌, map, position, cond, if◌then◌else◌, refl, ap, string_eq, Global}
use Rattle.std.specs.List.{list_any, position_or_len}
use Rattle.std.proofs.lemmas.List.{length-map, map-append}

module _ {K : Type 0} (f : K → List ℕ) (t : List ℕ) where
  pub any-spelt : (keys : List K) → list_any (bytes_eq t) (map f keys) ≡ list_any (λ k. bytes_eq t (f k)) keys
  any-spelt [] = refl
  any-spelt (k ∷ keys) = ap (λ b. bytes_eq t (f k) || b) (any-spelt keys)

  first-spelt : (keys : List K) → position_or_len (bytes_eq t) (map f keys) ≡ position_or_len (λ k. bytes_eq t (f k)) keys
  first-spelt [] = refl
  first-spelt (k ∷ keys) = ap (λ n. cond (not (bytes_eq t (f k))) (1 + n) 0) (first-spelt keys)

  pub place-spelt : (keys : List K) → position (bytes_eq t) (map f keys) ≡ position (λ k. bytes_eq t (f k)) keys
  place-spelt keys = rw (first-spelt keys, length-map keys f) refl

-- one string more, where none spells its text
pub more-spelt : (keys : List (String Global)) (k : String Global) → map string_bytes (if list_any (string_eq k) keys then keys else keys ++ k ∷ [])
    ≡ (if list_any (bytes_eq (string_bytes k)) (map string_bytes keys) then map string_bytes keys else map string_bytes keys ++ string_bytes k ∷ [])
more-spelt keys k = rw (any-spelt string_bytes (string_bytes k) keys) (by (list_any (λ x. bytes_eq (string_bytes k) (string_bytes x)) keys))
  where
    by : (b : Bool) → map string_bytes (if b then keys else keys ++ k ∷ []) ≡ (if b then map string_bytes keys else map string_bytes keys ++ string_bytes k ∷ [])
    by true = refl
    by false = map-append string_bytes keys (k ∷ [])
