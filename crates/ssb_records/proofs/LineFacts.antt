-- Lines of a text.
use Rattle.std.proofs.Common.{◌≡◌, ◌==◌, ◌<◌, ◌||◌, ℕ, suc, Bool, true, false, List, [], ◌∷◌, length, get_or, refl, arith}
use Rattle.std.specs.List.{list_any}

or-none : (b : Bool) (a : Bool) → (b ≡ true → ⊥) → a ≡ false → (b || a) ≡ false
or-none true a h e = absurd (h refl)
or-none false a h e = e

-- no byte is a line feed
pub no-lf : (xs : List ℕ) → ((k : ℕ) → k < length xs → (get_or xs k 0 == 10) ≡ true → ⊥) → list_any (λ x. x == 10) xs ≡ false
no-lf [] h = refl
no-lf (x ∷ xs) h = or-none (x == 10) (list_any (λ x. x == 10) xs) (h 0 (omega arith)) (no-lf xs (λ k lt. h (suc k) (omega arith)))
