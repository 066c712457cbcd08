-- Values as numbers: those of one column by a digit, and those of several columns by a number with a digit for each, the first the lowest.
-- Source: own; a positional notation with a radix for each place.
use Rattle.std.specs.Prelude.{ℕ, zero, suc, ◌+◌, ◌*◌, ◌/◌, ◌%◌, ◌<◌, ◌≤◌, ◌^◌, pos, ◌-ℤ◌, ◌+ℤ◌, ◌≤ℤ◌, unsigned_abs, List, [], ◌∷◌, ⊤}
use Rattle.ssb_keys.specs.declared.domain.Domain.{Domain}
use Rattle.ssb_keys.specs.declared.domain.Domain.TheVariants as domain
use Rattle.ssb_keys.specs.declared.kept.Kept.{Kept}
use Rattle.ssb_keys.specs.declared.kept.Kept.TheVariants as kept

-- ---- one column

-- how many values a column may have, null included
abbrev pub radix : Domain → ℕ
radix (domain.Numbers least r) = r
radix (domain.Codes r) = r

-- the digit of a value: 0 for null
abbrev pub digit : Domain → Kept → ℕ
digit (domain.Numbers least r) (kept.Number n) = unsigned_abs (n -ℤ least) + 1
digit (domain.Codes r) (kept.Code c) = c + 1
digit d c = 0

-- a value of the column
abbrev pub IsIn : Domain → Kept → Type 0
IsIn d kept.Null = 0 < radix d
IsIn (domain.Numbers least r) (kept.Number n) = (least ≤ℤ n) × (unsigned_abs (n -ℤ least) + 1 < r)
IsIn (domain.Numbers least r) (kept.Code c) = ⊥
IsIn (domain.Codes r) (kept.Number n) = ⊥
IsIn (domain.Codes r) (kept.Code c) = c + 1 < r

-- the value of a digit
abbrev pub cell : Domain → ℕ → Kept
cell d zero = kept.Null
cell (domain.Numbers least r) (suc n) = kept.Number (least +ℤ pos n)
cell (domain.Codes r) (suc n) = kept.Code n

-- its numbers are those of an `int`, its codes those of a column's texts
abbrev pub IsLawful : Domain → Type 0
IsLawful (domain.Numbers least r) = (least +ℤ pos r) ≤ℤ (pos (2 ^ 63 + 1))
IsLawful (domain.Codes r) = r ≤ 2 ^ 32

-- ---- several columns

-- how many keys there may be
abbrev pub size : List Domain → ℕ
size [] = 1
size (d ∷ ds) = radix d * size ds

-- a value of each column
abbrev pub AreIn : List Domain → List Kept → Type 0
AreIn [] [] = ⊤
AreIn [] (c ∷ cs) = ⊥
AreIn (d ∷ ds) [] = ⊥
AreIn (d ∷ ds) (c ∷ cs) = IsIn d c × AreIn ds cs

-- the number of a value of each
abbrev pub number : List Domain → List Kept → ℕ
number [] cs = 0
number (d ∷ ds) [] = 0
number (d ∷ ds) (c ∷ cs) = number ds cs * radix d + digit d c

-- a number may have a digit more, that of a value
pub record HasDigit (d : Domain) (n : ℕ) (c : Kept) : Type 0 where
  pub there : IsIn d c
  pub room : n * radix d + digit d c < 2 ^ 62

-- the values of a number
abbrev pub cells : List Domain → ℕ → List Kept
cells [] n = []
cells (d ∷ ds) n = cell d (n % radix d) ∷ cells ds (n / radix d)
