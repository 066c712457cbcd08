-- Rows of a range, and rows where no flag is set.
use Rattle.std.proofs.Common.{◌≡◌, ◌∙◌, ◌++◌, ◌+◌, ◌%◌, ◌<◌, ℕ, zero, suc, nat_eq, true, false, cond, not, List, [], ◌∷◌, filter, length, get_or, refl, sym, ap, arith}
use Rattle.std.specs.Bool.{◌==◌}
use Rattle.std.specs.List.{range_with_len}
use Rattle.std.proofs.lemmas.Nat.Bits.{bit_at-zero}
use Rattle.std.proofs.lemmas.Option.{same_Some, slice_get-get_or}
use Rattle.ssb_packed.specs.Lent.{flag_at}

-- no flag is set where there is no word
pub no-flag : (r : ℕ) → flag_at [] r ≡ false
no-flag r = ap (λ x. nat_eq x 1) (bit_at-zero (r % 64))

pub filter-no_flags : (words rows : List ℕ) → words ≡ [] → filter (λ r. not (flag_at words r)) rows ≡ rows
filter-no_flags words rows none = rw none (all rows)
  where
    all : (xs : List ℕ) → filter (λ r. not (flag_at [] r)) xs ≡ xs
    all [] = refl
    all (x ∷ xs) = ap (λ b. cond (not b) (x ∷ filter (λ r. not (flag_at [] r)) xs) (filter (λ r. not (flag_at [] r)) xs)) (no-flag x) ∙ ap (λ ys. x ∷ ys) (all xs)

pub range-more : (a n : ℕ) → range_with_len a (n + 1) ≡ range_with_len a n ++ (a + n) ∷ []
range-more a zero = ap (λ b. b ∷ []) (let e : a ≡ a + zero = omega arith in e)
range-more a (suc n) =
    ap (range_with_len a) (let e : suc n + 1 ≡ suc (n + 1) = omega arith in e)
    ∙ ap (λ t. a ∷ t) (range-more (a + 1) n ∙ ap (λ b. range_with_len (a + 1) n ++ b ∷ []) (let e : a + 1 + n ≡ a + suc n = omega arith in e))

pub no-words : (words : List ℕ) → (length words == 0) ≡ true → words ≡ []
no-words [] e = refl
no-words (w ∷ words) e = let bad : suc (length words) ≡ 0 = grind (arith, e) in absurd (omega (arith, bad))

-- an element that was read
pub read-zero : (ys : List ℕ) (i x : ℕ) → i < length ys → x ≡ get_or ys i x → get_or ys i 0 ≡ x
read-zero ys i x lt is = same_Some (get_or ys i 0) (get_or ys i x) (sym (slice_get-get_or ys i 0 lt) ∙ slice_get-get_or ys i x lt) ∙ sym is
