-- The fields of a line as the program has them.
-- For the contracts inside this crate.
use Rattle.std.specs.Prelude.{Bool, false, map, Option, None, Some, string_bytes}
use Rattle.std.specs.Fmt.{signed_decimal}
use Rattle.ssb_show.specs.Columns.{Field, Line, has_letters, left_field, right_field, rule_field}
use Rattle.ssb_show.specs.Shown.{row_line, title_line}
use Rattle.ssb_show.specs.declared.piece.Piece.{Piece}
use Rattle.ssb_show.specs.declared.piece.Piece.TheVariants as piece
use Rattle.ssb_show.specs.declared.fields.Fields.{Fields}
use Rattle.ssb_show.specs.declared.fields.Fields.TheVariants as fields

abbrev pub field_of : Piece → Field
field_of (piece.Text t) = left_field t.now
field_of (piece.Number n) = right_field (signed_decimal n)
field_of (piece.Rule width) = rule_field width

abbrev pub line_of : Fields → Line
line_of (fields.Titles titles) = title_line (map string_bytes titles.now)
line_of (fields.Rule widths) = map rule_field widths.now
line_of (fields.Row row) = row_line row

abbrev pub letters_at : Option Field → Bool
letters_at None = false
letters_at (Some f) = has_letters f
