-- One digit more.
use Rattle.std.proofs.Common.{◌≡◌, ◌+◌, ◌-◌, ◌*◌, ◌<◌, ◌≤◌, ◌^◌, ℕ, zero, suc, true, List, [], ◌∷◌, ◌++◌, length, take, get_or, refl, arith, add-one}
use Rattle.std.specs.Str.{all_ascii_digits}
use Rattle.std.specs.Str.Parse.{digits_value}
use Rattle.std.specs.Char.{digit_value, is_ascii_digit}
use native.Mathlib.Numerals.{unary_clauses}
use Rattle.std.proofs.Math.Nat.{pow-le-pow_right}
use Rattle.std.proofs.lemmas.List.{take_more}
use Rattle.std.proofs.lemmas.Int.Digits.{digits_value_more}
use Rattle.std.proofs.lemmas.Bool.Decides.{nat_tests}
use Rattle.std.proofs.lemmas.Bool.{and_parts}

pub digits-room : (k value : ℕ) → k < 18 → value < 10 ^ k → value * 10 + 9 < 2 ^ 63
digits-room k value lt small =
    let p : 10 ^ k ≤ 10 ^ 17 = (let pos : 0 < 10 = omega arith in let le : k ≤ 17 = omega (arith, lt) in pow-le-pow_right {n = 10} pos {i = k} {j = 17} le) in
    omega (arith, p, small)

pub pow-more : (k value d : ℕ) → value < 10 ^ k → d ≤ 9 → value * 10 + d < 10 ^ (k + 1)
pow-more k value d small le =
    let h : k + 1 ≡ suc k = add-one k in
    let p : 10 ^ suc k ≡ 10 ^ k * 10 = simp unary_clauses refl in
    rw (h, p) (omega (arith, small, le))

digit-is : (c : ℕ) → 48 ≤ c → c ≤ 57 → digit_value c ≡ c - 48
digit-is c lo hi = grind (arith, nat_tests)

is-digit : (c : ℕ) → 48 ≤ c → c ≤ 57 → is_ascii_digit c ≡ true
is-digit c lo hi = grind (arith, nat_tests)

get-same : (bs : List ℕ) (k p q : ℕ) → k < length bs → get_or bs k p ≡ get_or bs k q
get-same [] k p q lt = absurd (omega arith)
get-same (b ∷ bs) zero p q lt = refl
get-same (b ∷ bs) (suc k) p q lt = get-same bs k p q (omega arith)

all-push : (xs : List ℕ) (c : ℕ) → all_ascii_digits xs ≡ true → is_ascii_digit c ≡ true → all_ascii_digits (xs ++ c ∷ []) ≡ true
all-push [] c all is = rw is refl
all-push (x ∷ xs) c all is = let (a, b) = and_parts (is_ascii_digit x) (all_ascii_digits xs) all in rw a (all-push xs c b is)

pub digit-more : (bs : List ℕ) (k value d : ℕ) (q : ℕ) → k < length bs → value ≡ digits_value 10 (take k bs) → all_ascii_digits (take k bs) ≡ true → value < 10 ^ k
    → 48 ≤ get_or bs k q → get_or bs k q ≤ 57 → d ≡ get_or bs k q - 48
    → (value * 10 + d ≡ digits_value 10 (take (k + 1) bs)) × (all_ascii_digits (take (k + 1) bs) ≡ true) × (value * 10 + d < 10 ^ (k + 1))
digit-more bs k value d q lt is all small lo hi of =
    let same : get_or bs k 0 ≡ get_or bs k q = get-same bs k 0 q lt in
    let more = digits_value_more 10 bs k lt in
    let dig = digit-is (get_or bs k q) lo hi in (
      rw (more, same, dig, of, is) refl,
      rw (take_more bs k q lt) (all-push (take k bs) (get_or bs k q) all (is-digit (get_or bs k q) lo hi)),
      pow-more k value d small (rw of (omega (arith, hi))),
    )
