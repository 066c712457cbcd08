-- How a column keeps its values.
-- For the contracts inside this crate.
use Rattle.std.specs.Prelude.{◌≡◌, ℕ, ℤ, pos, Bool, false, List, [], ◌∷◌, ◌++◌, length, get_or, if◌then◌else◌, ◌≤◌, ◌<◌, ⊤}
use Rattle.std.specs.List.{position_or_len}
use Rattle.std.specs.Str.{bytes_eq}
use Rattle.ssb_cells.specs.Cell.{Cell, null, number, text}
use Rattle.ssb_cells.specs.Tables.{Filled}
use Rattle.ssb_cells.specs.Codes.{texts_of, with_text}
use Rattle.ssb_cells.specs.Values.{cell_of}
use Rattle.ssb_terms.specs.declared.rule.ColType.{ColType}
use Rattle.ssb_terms.specs.declared.rule.ColType.TheVariants as kinds
use Rattle.ssb_cells.specs.declared.column.Column.TheInside.{Inside}
use Rattle.ssb_cells.specs.declared.column.Stored.{Stored}
use Rattle.ssb_cells.specs.declared.column.Stored.TheVariants as stored
use Rattle.ssb_cells.specs.declared.value.Value.{Value}
use Rattle.ssb_cells.specs.declared.value.Value.TheVariants as values

-- the values at the places that the flags leave, and nulls at the others
abbrev pub cells_by : {X : Type 0} → (X → Cell) → List Bool → List X → List Cell
cells_by f [] xs = []
cells_by f (b ∷ bs) [] = []
cells_by f (b ∷ bs) (x ∷ xs) = (if b then null else f x) ∷ cells_by f bs xs

-- the number that a value is, or 0
abbrev pub number_in : Value → ℤ
number_in values.Null = pos 0
number_in (values.Int n) = n
number_in (values.Text t) = pos 0

-- the code that a value has once it is among the texts, or 0
abbrev pub code_for : List (List ℕ) → Value → ℕ
code_for texts values.Null = 0
code_for texts (values.Int n) = 0
code_for texts (values.Text t) = position_or_len (bytes_eq t.now) texts

abbrev pub kind_of : Stored → ColType
kind_of (stored.Int n) = kinds.Int
kind_of (stored.Text t) = kinds.Text

-- the same with what one more value stores
abbrev pub with_value : Stored → Value → Stored
with_value (stored.Int n) v = stored.Int (n ++ number_in v ∷ [])
with_value (stored.Text t) v = stored.Text (record { dictionary = with_text t.dictionary (cell_of v); codes = t.codes ++ code_for t.dictionary v ∷ [] })

-- the text that a code spells
abbrev pub spelt : List (List ℕ) → ℕ → Cell
spelt texts code = text (get_or texts code [])

abbrev pub cells_in : Stored → List Bool → List Cell
cells_in (stored.Int n) nulls = cells_by number nulls n
cells_in (stored.Text t) nulls = cells_by (spelt t.dictionary) nulls t.codes

abbrev pub filled : Inside → Filled
filled c = record { kind = kind_of c.stored; values = cells_in c.stored c.nulls }

abbrev pub count_in : Stored → ℕ
count_in (stored.Int n) = length n
count_in (stored.Text t) = length t.codes

-- a dictionary can take one text more
abbrev pub HasRoom : Stored → Type 0
HasRoom (stored.Int n) = ⊤
HasRoom (stored.Text t) = length t.dictionary < 4294967295

-- each code that no flag says to be null is below this one
abbrev pub AreBelow : ℕ → List Bool → List ℕ → Type 0
AreBelow n [] codes = ⊤
AreBelow n (b ∷ bs) [] = ⊤
AreBelow n (b ∷ bs) (c ∷ cs) = (b ≡ false → c < n) × AreBelow n bs cs

-- the dictionary has the different texts of the values, and each code is one of it
abbrev pub IsSpelt : Stored → List Bool → Type 0
IsSpelt (stored.Int n) nulls = ⊤
IsSpelt (stored.Text t) nulls = (t.dictionary ≡ texts_of (cells_by (spelt t.dictionary) nulls t.codes)) × AreBelow (length t.dictionary) nulls t.codes

-- as many null flags as values, which a row's number can count
pub record IsWhole (c : Inside) : Type 0 where
  pub parts : length c.nulls ≡ count_in c.stored
  pub room : length c.nulls ≤ 4294967295
  pub texts : IsSpelt c.stored c.nulls
