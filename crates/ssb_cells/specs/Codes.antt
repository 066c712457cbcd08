-- A column's different texts, and their codes.
-- Source: own. A code is a text's place among the different texts, each at its first row.
use Rattle.std.specs.Prelude.{ℕ, List, [], ◌∷◌, ◌++◌, Option, None, Some, fold, position, slice_get, if◌then◌else◌}
use Rattle.std.specs.List.{list_any}
use Rattle.std.specs.Str.{bytes_eq}
use Rattle.ssb_cells.specs.Cell.{Cell, null, number, text}

-- the texts with that of one more value: behind the others, where it is not among them
abbrev pub with_text : List (List ℕ) → Cell → List (List ℕ)
with_text texts null = texts
with_text texts (number n) = texts
with_text texts (text t) = if list_any (bytes_eq t) texts then texts else texts ++ t ∷ []

-- the different texts of a list of values, in the order of their first rows
abbrev pub texts_of : List Cell → List (List ℕ)
texts_of values = fold with_text [] values

-- the code of a text: its place among them, if some row has it
abbrev pub code_of : List Cell → List ℕ → Option ℕ
code_of values t = position (bytes_eq t) (texts_of values)

-- the code of a value, which only a text has
abbrev pub cell_code : List Cell → Option Cell → Option ℕ
cell_code values None = None
cell_code values (Some null) = None
cell_code values (Some (number n)) = None
cell_code values (Some (text t)) = code_of values t

-- the code of a row
abbrev pub code_at : List Cell → ℕ → Option ℕ
code_at values row = cell_code values (slice_get values row)
