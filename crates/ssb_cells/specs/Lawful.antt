-- What every loaded table keeps, for the layers above.
-- Source: own, from the roles of columns.
use Rattle.std.specs.Prelude.{◌≡◌, ◌≢◌, ◌<◌, ◌≤◌, ◌^◌, ℕ, ℤ, pos, negsuc, true, List, [], ◌∷◌, length, slice_get, Some, ⊤, All, AllPairs}
use Rattle.ssb_cells.specs.Cell.{Cell, null, number, text}
use Rattle.ssb_cells.specs.Tables.{Filled}
use Rattle.ssb_terms.specs.declared.rule.ColType.{ColType}
use Rattle.ssb_terms.specs.declared.rule.ColType.TheVariants as kinds
use Rattle.ssb_terms.specs.Roles.{needs_value, is_key, key_place}
use Rattle.ssb_terms.specs.declared.rule.Rule.{Rule}

-- a value that a column of this type may hold
abbrev pub FitsType : ColType → Cell → Type 0
FitsType kind null = ⊤
FitsType kinds.Int (number n) = ⊤
FitsType kinds.Int (text t) = ⊥
FitsType kinds.Text (number n) = ⊥
FitsType kinds.Text (text t) = ⊤

-- a number of 64 bits: from -2^63 to 2^63 - 1
abbrev pub IsInt64 : ℤ → Type 0
IsInt64 (pos n) = n < 2 ^ 63
IsInt64 (negsuc n) = n < 2 ^ 63

-- a value that a file can give: a number of 64 bits, or a text of 1 to 4,096 bytes
abbrev pub IsGiven : Cell → Type 0
IsGiven null = ⊤
IsGiven (number n) = IsInt64 n
IsGiven (text t) = (0 < length t) × (length t ≤ 4096)

-- a column has its type, values that a file can give, and no null where a value is needed
pub record Obeys (rule : Rule) (column : Filled) : Type 0 where
  pub kind : column.kind ≡ rule.kind
  pub typed : All (FitsType rule.kind) column.values
  pub given : All IsGiven column.values
  pub needed : needs_value rule.role ≡ true → All (λ v. v ≢ null) column.values

abbrev pub EachObeys : List Rule → List Filled → Type 0
EachObeys [] [] = ⊤
EachObeys [] (c ∷ cs) = ⊥
EachObeys (p ∷ ps) [] = ⊥
EachObeys (p ∷ ps) (c ∷ cs) = Obeys p c × EachObeys ps cs

-- a table's key is a number, and it has no other
abbrev pub HasOneKey : List Rule → Type 0
HasOneKey rules = (k : ℕ) (p : Rule) → slice_get rules k ≡ Some p → is_key p.role ≡ true → (p.kind ≡ kinds.Int) × (key_place rules ≡ Some k)

-- how many rows a table has at most, as many as 32 bits count
abbrev pub most_rows : ℕ
most_rows = 4294967295

-- each column obeys its rule, there are at most so many rows, and the values of a key are all different
pub record IsLawful (rules : List Rule) (max_rows : ℕ) (columns : List Filled) : Type 0 where
  pub obeyed : EachObeys rules columns
  pub few : All (λ c. length c.values ≤ max_rows) columns
  pub distinct : (k : ℕ) (p : Rule) (c : Filled) → slice_get rules k ≡ Some p → is_key p.role ≡ true → slice_get columns k ≡ Some c → AllPairs (λ x y. x ≢ y) c.values
