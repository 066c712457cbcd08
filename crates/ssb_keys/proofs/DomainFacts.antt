-- Values and numbers determine one another.
use Rattle.std.proofs.Common.{◌≡◌, ◌∙◌, ℕ, zero, suc, ◌+◌, ◌*◌, ◌/◌, ◌%◌, ◌<◌, ℤ, pos, List, [], ◌∷◌, refl, ap, ap₂, subst, arith}
use Rattle.std.specs.Prelude.{◌-ℤ◌, ◌+ℤ◌, ◌≤ℤ◌, unsigned_abs}
use Rattle.std.proofs.lemmas.Nat.{div-mul-add, mod-mul-add, mul-add-lt, div-add-mod', div_below, mod_below}
use Rattle.std.proofs.lemmas.Int.{ints}
use Rattle.ssb_keys.specs.Domains.{AreIn, IsIn, cell, cells, digit, number, radix, size}
use Rattle.ssb_keys.specs.declared.domain.Domain.{Domain}
use Rattle.ssb_keys.specs.declared.domain.Domain.TheVariants as domain
use Rattle.ssb_keys.specs.declared.kept.Kept.{Kept}
use Rattle.ssb_keys.specs.declared.kept.Kept.TheVariants as kept

-- ---- one column

pub digit-below : (d : Domain) (c : Kept) → IsIn d c → digit d c < radix d
digit-below (domain.Numbers least r) kept.Null p = p
digit-below (domain.Numbers least r) (kept.Number n) p = p.1
digit-below (domain.Numbers least r) (kept.Code c) p = absurd p
digit-below (domain.Codes r) kept.Null p = p
digit-below (domain.Codes r) (kept.Number n) p = absurd p
digit-below (domain.Codes r) (kept.Code c) p = p

above : (least n : ℤ) (k : ℕ) → least ≤ℤ n → unsigned_abs (n -ℤ least) ≡ k → least +ℤ pos k ≡ n
above least n k le e = omega (arith, ints)

above-again : (least : ℤ) (k : ℕ) → unsigned_abs (least +ℤ pos k -ℤ least) ≡ k
above-again least k = omega (arith, ints)

pub cell-digit : (d : Domain) (c : Kept) → IsIn d c → cell d (digit d c) ≡ c
cell-digit (domain.Numbers least r) kept.Null p = refl
cell-digit (domain.Numbers least r) (kept.Number n) p =
    let one : unsigned_abs (n -ℤ least) + 1 ≡ suc (unsigned_abs (n -ℤ least)) = omega arith in
    ap (cell (domain.Numbers least r)) one ∙ ap kept.Number (above least n _ p.0 refl)
cell-digit (domain.Numbers least r) (kept.Code c) p = absurd p
cell-digit (domain.Codes r) kept.Null p = refl
cell-digit (domain.Codes r) (kept.Number n) p = absurd p
cell-digit (domain.Codes r) (kept.Code c) p = let one : c + 1 ≡ suc c = omega arith in ap (cell (domain.Codes r)) one

pub digit-cell : (d : Domain) (n : ℕ) → digit d (cell d n) ≡ n
digit-cell (domain.Numbers least r) zero = refl
digit-cell (domain.Numbers least r) (suc n) = let e = above-again least n in omega (arith, e)
digit-cell (domain.Codes r) zero = refl
digit-cell (domain.Codes r) (suc n) = omega arith

pub cell-in : (d : Domain) (n : ℕ) → n < radix d → IsIn d (cell d n)
cell-in (domain.Numbers least r) zero h = h
cell-in (domain.Numbers least r) (suc n) h = let e = above-again least n in (omega (arith, ints), omega (arith, e, h))
cell-in (domain.Codes r) zero h = h
cell-in (domain.Codes r) (suc n) h = omega (arith, h)

-- ---- several columns

pub number-below : (ds : List Domain) (cs : List Kept) → AreIn ds cs → number ds cs < size ds
number-below [] [] p = omega arith
number-below [] (c ∷ cs) p = absurd p
number-below (d ∷ ds) [] p = absurd p
number-below (d ∷ ds) (c ∷ cs) p = mul-add-lt (number ds cs) (radix d) (digit d c) (size ds) (number-below ds cs p.1) (digit-below d c p.0)

pub cells-number : (ds : List Domain) (cs : List Kept) → AreIn ds cs → cells ds (number ds cs) ≡ cs
cells-number [] [] p = refl
cells-number [] (c ∷ cs) p = absurd p
cells-number (d ∷ ds) [] p = absurd p
cells-number (d ∷ ds) (c ∷ cs) p =
    let below = digit-below d c p.0 in
    ap₂ (λ x xs. x ∷ xs)
    (ap (cell d) (mod-mul-add (number ds cs) (radix d) (digit d c) below) ∙ cell-digit d c p.0)
    (ap (cells ds) (div-mul-add (number ds cs) (radix d) (digit d c) below) ∙ cells-number ds cs p.1)

-- each column has a value
some-value : (r s n : ℕ) → n < r * s → 0 < r
some-value zero s n h = absurd (omega (arith, h))
some-value (suc r) s n h = omega arith

pub cells-in : (ds : List Domain) (n : ℕ) → n < size ds → AreIn ds (cells ds n)
cells-in [] n h = tt
cells-in (d ∷ ds) n h =
    let some = some-value (radix d) (size ds) n h in
    let turned : radix d * size ds ≡ size ds * radix d = omega arith in
    (cell-in d (n % radix d) (mod_below n (radix d) some), cells-in ds (n / radix d) (div_below n (radix d) (size ds) some (subst (λ m. n < m) turned h)))

pub number-cells : (ds : List Domain) (n : ℕ) → n < size ds → number ds (cells ds n) ≡ n
number-cells [] n h = omega (arith, h)
number-cells (d ∷ ds) n h =
    let some = some-value (radix d) (size ds) n h in
    let turned : radix d * size ds ≡ size ds * radix d = omega arith in
    let rest = number-cells ds (n / radix d) (div_below n (radix d) (size ds) some (subst (λ m. n < m) turned h)) in
    ap₂ (λ x y. x * radix d + y) rest (digit-cell d (n % radix d)) ∙ div-add-mod' n (radix d)
