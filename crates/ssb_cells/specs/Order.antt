-- The order of values.
-- Source: own, where SQL-92, 13.1 leaves the place of null open; numbers by their size as in SQL-92, 8.2;
-- texts by their UTF-8 bytes without padding, and texts behind numbers, are this project's own.
use Rattle.std.specs.Ordering.{int_cmp, nat_cmp}
use Rattle.std.specs.Cmp.Lexicographic.{slice_cmp}
use Rattle.std.specs.declared.cmp.Ordering.{Ordering}
use Rattle.std.specs.declared.cmp.Ordering.TheVariants.{Less, Equal, Greater}
use Rattle.ssb_cells.specs.Cell.{Cell, null, number, text}

-- null is least, then come numbers by their size, then texts by their bytes, a beginning first
abbrev pub cell_cmp : Cell → Cell → Ordering
cell_cmp null null = Equal
cell_cmp null (number b) = Less
cell_cmp null (text b) = Less
cell_cmp (number a) null = Greater
cell_cmp (number a) (number b) = int_cmp a b
cell_cmp (number a) (text b) = Less
cell_cmp (text a) null = Greater
cell_cmp (text a) (number b) = Greater
cell_cmp (text a) (text b) = slice_cmp nat_cmp a b
