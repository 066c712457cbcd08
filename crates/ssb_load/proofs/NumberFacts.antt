-- What `parse` reads is the number that a field spells.
use Rattle.std.proofs.Common.{◌≡◌, ◌≢◌, ◌+◌, ◌^◌, ◌<◌, ◌≤◌, ◌&&◌, ℕ, ℤ, Bool, true, false, cond, ltb, List, [], ◌∷◌, length, drop, get_or, Some, None, Result, Ok, Err, Decides, inl, inr, refl, arith, w64}
use Rattle.std.specs.Result.{OkIff, result_ok}
use Rattle.std.specs.Str.{all_ascii_digits}
use Rattle.std.specs.Str.Parse.{ParsesSigned, digits_value, starts_with_minus}
use Rattle.std.proofs.lemmas.Bool.{cases_Bool}
use Rattle.std.proofs.lemmas.Bool.Decides.{Decides-ltb, nat_tests}
use Rattle.std.proofs.lemmas.Str.Parse.{IsNumeralModel, numerals_by_value, tells_all_ascii_digits, parse_signed_minus, parse_signed_plain}
use Rattle.ssb_load.specs.Numbers.{is_numeral_below, number_of}

own : IsNumeralModel (λ ds. all_ascii_digits ds ≡ true) (digits_value 10)
own = numerals_by_value _ tells_all_ascii_digits

ok-is : {E : Type 0} (r : Result ℤ E) (P : Type 0) (v : ℤ) (b : Bool) → OkIff r P v → Decides b P → result_ok r ≡ cond b (Some v) None
ok-is (Ok x) P v b h d = rw (d.1 h.0, h.1) refl
ok-is (Err e) P v true h d = absurd (h (d.0 refl))
ok-is (Err e) P v false h d = refl

three : (a b c : Bool) → Decides (a && (b && c)) ((a ≡ true) × (b ≡ true) × (c ≡ true))
three true true true = (λ e. (refl, refl, refl), λ p. refl)
three true true false = (λ e. cc e, λ p. cc p.2)
three true false c = (λ e. cc e, λ p. cc p.1)
three false b c = (λ e. cc e, λ p. cc p.0)

numeral : (limit : ℕ) (ds : List ℕ) → Decides (is_numeral_below limit ds) ((all_ascii_digits ds ≡ true) × (0 < length ds) × (digits_value 10 ds < limit))
numeral limit ds =
    let d = three (all_ascii_digits ds) (ltb 0 (length ds)) (ltb (digits_value 10 ds) limit) in
    let x = Decides-ltb 0 (length ds) in
    let y = Decides-ltb (digits_value 10 ds) limit in
    (λ e. let p = d.0 e in (p.0, x.0 p.1, y.0 p.2), λ p. d.1 (p.0, x.1 p.1, y.1 p.2))

-- a limit that is met
at-most : (limit : ℕ) (ds : List ℕ) → Decides (is_numeral_below (limit + 1) ds) ((all_ascii_digits ds ≡ true) × (0 < length ds) × (digits_value 10 ds ≤ limit))
at-most limit ds =
    let d = numeral (limit + 1) ds in
    (λ e. let p = d.0 e in (p.0, p.1, let q = p.2 in omega arith), λ p. d.1 (p.0, p.1, let q = p.2 in omega arith))

pub number-parsed : {E : Type 0} (bs : List ℕ) (r : Result ℤ E) → get_or bs 0 0 ≢ 43 → ParsesSigned w64 10 bs r → result_ok r ≡ number_of bs
number-parsed bs r plus h = elim (cases_Bool (starts_with_minus bs)) [
  | inl minus ↦
      let at : get_or bs 0 0 ≡ 45 = grind (arith, nat_tests) in
      rw minus (ok-is r _ _ (is_numeral_below (2 ^ 63 + 1) (drop 1 bs)) (parse_signed_minus own w64 bs r h at) (at-most (2 ^ 63) (drop 1 bs)))
  | inr none ↦
      let at : get_or bs 0 0 ≢ 45 = grind (arith, nat_tests) in
      rw none (ok-is r _ _ (is_numeral_below (2 ^ 63) bs) (parse_signed_plain own w64 bs r h plus at) (numeral (2 ^ 63) bs))
]

pub number-empty : (bs : List ℕ) → length bs ≡ 0 → number_of bs ≡ None
number-empty [] e = refl
number-empty (c ∷ cs) e = absurd (omega arith)

pub number-plus : (bs : List ℕ) → 0 < length bs → get_or bs 0 0 ≡ 43 → number_of bs ≡ None
number-plus [] lt e = absurd (omega arith)
number-plus (c ∷ cs) lt e = let h : c ≡ 43 = e in rw h refl
