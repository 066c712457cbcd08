-- The text of an answer in a shape.
-- Source: own. In bars it is the text that programs read, in columns one for people.
use Rattle.std.specs.Prelude.{◌≡◌, ◌<◌, ℕ, Bool, true, false, List, [], ◌∷◌, ◌++◌, map, length}
use Rattle.std.specs.List.{flat_map, join_with_byte}
use Rattle.ssb_rows.specs.Order.{Row}
use Rattle.ssb_rows.specs.Taking.{IsBeginning}
use Rattle.ssb_rows.specs.Text.{text_of}
use Rattle.ssb_rows.specs.declared.fault.AnswerFault.{AnswerFault}
use Rattle.ssb_rows.specs.declared.fault.AnswerFault.TheVariants as fault
use Rattle.ssb_show.specs.Columns.{Bytes, Line, column_widths, in_columns, left_field, rule_field, value_field}
use Rattle.ssb_show.specs.declared.shape.Mode.{Mode}
use Rattle.ssb_show.specs.declared.shape.Mode.TheVariants as mode
use Rattle.ssb_show.specs.declared.shape.Shape.{Shape}

-- ---- in bars: the titles as a row of their own, and then the rows

abbrev pub bar_titles : Bool → List Bytes → Bytes
bar_titles false titles = []
bar_titles true titles = join_with_byte 124 titles ++ 10 ∷ []

-- ---- in columns: the titles, dashes below them, and then the rows

abbrev pub title_line : List Bytes → Line
title_line titles = map left_field titles

abbrev pub row_line : Row → Line
row_line row = map value_field row

abbrev pub title_lines : Bool → List Bytes → List Line
title_lines false titles = []
title_lines true titles = title_line titles ∷ []

-- the widths of the columns, of which there is one for each title: what is shown has room in them
abbrev pub widths_of : Bool → List Bytes → List Row → List ℕ
widths_of headers titles rows = column_widths (title_lines headers titles ++ map row_line rows) (length titles)

abbrev pub head_of : Bool → List ℕ → List Bytes → Bytes
head_of false widths titles = []
head_of true widths titles = in_columns widths (title_line titles) ++ in_columns widths (map rule_field widths)

abbrev pub rows_of : List ℕ → List Row → Bytes
rows_of widths rows = flat_map (λ row. in_columns widths (row_line row)) rows

-- ---- a shape

-- the text by the widths of the columns, which bars do not have
abbrev pub sheet : Mode → Bool → List ℕ → List Bytes → List Row → Bytes
sheet mode.Bars headers widths titles rows = bar_titles headers titles ++ text_of rows
sheet mode.Columns headers widths titles rows = head_of headers widths titles ++ rows_of widths rows

abbrev pub sheet_widths : Mode → Bool → List Bytes → List Row → List ℕ
sheet_widths mode.Bars headers titles rows = []
sheet_widths mode.Columns headers titles rows = widths_of headers titles rows

abbrev pub shown : Shape → List Bytes → List Row → Bytes
shown s titles rows = sheet s.mode s.headers (sheet_widths s.mode s.headers titles rows) titles rows

-- bars without headers
abbrev pub plain : Shape
plain = record { mode = mode.Bars; headers = false }

abbrev pub are_bars : Mode → Bool
are_bars mode.Bars = true
are_bars mode.Columns = false

-- the plain shape shows just the rows
abbrev pub PlainIsText : Type 0
PlainIsText = (titles : List Bytes) (rows : List Row) → shown plain titles rows ≡ text_of rows

-- ---- what a fault leaves

-- Of a text that could not be written: a failed write leaves a beginning of it, and where memory was refused nothing was written. The bytes that the sink had
-- taken before and after, and how often it had failed.
abbrev pub IsUnshown : Bytes → Bytes → Bytes → ℕ → ℕ → AnswerFault → Type 0
IsUnshown text old new failed_old failed_new fault.Write = IsBeginning old new text × (failed_old < failed_new)
IsUnshown text old new failed_old failed_new fault.Memory = (new ≡ old) × (failed_new ≡ failed_old)
IsUnshown text old new failed_old failed_new (fault.RowOverflow n) = ⊥
IsUnshown text old new failed_old failed_new fault.SumOutOfRange = ⊥
