-- The text of an answer.
-- Source: own: fields joined by bars, a null as nothing, numbers in decimal, LF behind each row.
use Rattle.std.specs.Prelude.{ℕ, List, [], ◌∷◌, ◌++◌, map}
use Rattle.std.specs.Fmt.{signed_decimal}
use Rattle.std.specs.List.{join_with_byte}
use Rattle.ssb_cells.specs.Cell.{Cell, null, number, text}
use Rattle.ssb_rows.specs.Order.{Row}

abbrev pub cell_text : Cell → List ℕ
cell_text null = []
cell_text (number n) = signed_decimal n
cell_text (text t) = t

-- fields joined by bars
abbrev pub fields_text : Row → List ℕ
fields_text row = join_with_byte 124 (map cell_text row)

-- and LF behind them
abbrev pub line : Row → List ℕ
line row = fields_text row ++ 10 ∷ []

-- the text of the rows
abbrev pub text_of : List Row → List ℕ
text_of [] = []
text_of (row ∷ rows) = line row ++ text_of rows
