use Rattle.std.proofs.Common.{◌≡◌, ◌++◌, map, string_bytes}
use Rattle.std.specs.List.{range_with_len}
use Rattle.ssb_show.specs.Columns.{column_width}
use Rattle.ssb_show.specs.Shown.{row_line, title_lines}
use Rattle.ssb_show.proofs.columns.column_widths.Given as goal

abbrev pub invariant-loop-place : goal.invariant-loop-place
invariant-loop-place l = l.widths.items ≡ map (column_width (title_lines l.shape.headers (map string_bytes l.titles) ++ map row_line l.answer)) (range_with_len 0 l.place)
