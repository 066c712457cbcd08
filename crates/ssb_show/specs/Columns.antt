-- Lines of fields in columns, for people.
-- Source: own. How wide a text is on a terminal is `unicode_width`'s.
use Rattle.std.specs.Prelude.{ℕ, ◌+◌, ◌-◌, max, ◌==◌, Bool, true, false, not, ◌||◌, List, [], ◌∷◌, ◌++◌, length, map, Option, None, Some, slice_get, unwrap_or, replicate, chars, codes, if◌then◌else◌}
use Rattle.std.specs.Fmt.{signed_decimal}
use Rattle.std.specs.List.{list_any, range_with_len}
use Rattle.unicode_width.specs.Width.{str_width}
use Rattle.ssb_cells.specs.Cell.{Cell, null, number, text}

abbrev pub Bytes : Type 0
Bytes = List ℕ

-- ---- fields

-- a text of a line, against the right edge of its column or the left
pub record Field : Type 0 where
  pub letters : Bytes
  pub right : Bool

abbrev pub left_field : Bytes → Field
left_field t = record { letters = t; right = false }

abbrev pub right_field : Bytes → Field
right_field t = record { letters = t; right = true }

-- numbers stand against the right edge, texts and nulls against the left
abbrev pub value_field : Cell → Field
value_field null = left_field []
value_field (number n) = right_field (signed_decimal n)
value_field (text t) = left_field t

-- dashes across a column
abbrev pub rule_field : ℕ → Field
rule_field width = left_field (replicate width 45)

-- ---- columns

abbrev pub Line : Type 0
Line = List Field

-- how wide a field is on a terminal
abbrev pub field_width : Field → ℕ
field_width f = str_width false (chars f.letters)

abbrev pub width_or_none : Option Field → ℕ
width_or_none None = 0
width_or_none (Some f) = field_width f

-- how wide a line is in a column
abbrev pub width_at : ℕ → Line → ℕ
width_at place line = width_or_none (slice_get line place)

abbrev pub widest : List ℕ → ℕ
widest [] = 0
widest (n ∷ ns) = max n (widest ns)

-- a column is as wide as its widest field
abbrev pub column_width : List Line → ℕ → ℕ
column_width lines place = widest (map (width_at place) lines)

-- the widths of so many columns
abbrev pub column_widths : List Line → ℕ → List ℕ
column_widths lines count = map (column_width lines) (range_with_len 0 count)

-- ---- a line

abbrev pub spaces : ℕ → Bytes
spaces n = replicate n 32

-- before a field at the right edge, and behind one at the left
abbrev pub before : ℕ → Field → Bytes
before width f = if f.right then spaces (width - field_width f) else []

abbrev pub behind : ℕ → Field → Bytes
behind width f = if f.right then [] else spaces (width - field_width f)

-- a number, or a text that is not empty
abbrev pub has_letters : Field → Bool
has_letters f = f.right || not (length f.letters == 0)

-- what parts a field from those behind it, of which one has a text: spaces to the edge of its column, and two more
abbrev pub gap_if : Bool → ℕ → Field → Bytes
gap_if true width f = behind width f ++ codes "  "
gap_if false width f = []

abbrev pub in_column : ℕ → Field → Bytes
in_column width f = before width f ++ f.letters

-- the fields from a place on, each in its column; nothing stands behind the last text
abbrev pub fields_from : List ℕ → ℕ → Line → Bytes
fields_from widths place [] = []
fields_from widths place (f ∷ fs) =
    let width = unwrap_or (slice_get widths place) 0 in
    (in_column width f ++ gap_if (list_any has_letters fs) width f) ++ fields_from widths (place + 1) fs

-- and LF behind them
abbrev pub in_columns : List ℕ → Line → Bytes
in_columns widths line = fields_from widths 0 line ++ 10 ∷ []
