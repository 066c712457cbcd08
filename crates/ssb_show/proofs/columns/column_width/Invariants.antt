use Rattle.std.proofs.Common.{◌≡◌, ◌++◌, length, map, max, string_bytes}
use Rattle.ssb_show.specs.Columns.{column_width}
use Rattle.ssb_show.specs.Shown.{row_line, title_lines}
use Rattle.ssb_show.proofs.columns.column_width.Given as goal

abbrev pub invariant-loop-row : goal.invariant-loop-row
invariant-loop-row l = max l.width (column_width (map row_line l.rest) l.place) ≡ column_width (title_lines l.headers (map string_bytes l.titles) ++ map row_line l.answer) l.place

abbrev pub decreases-loop-row : goal.decreases-loop-row
decreases-loop-row l = length l.rest
