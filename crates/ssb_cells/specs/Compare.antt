-- What a comparison says of two values.
-- Source: SQL-92, 8.2 <comparison predicate>; that texts compare by their bytes without padding is this project's own.
use Rattle.std.specs.Prelude.{Bool}
use Rattle.std.specs.Ordering.{is_eq, is_ne, is_lt, is_le, is_gt, is_ge}
use Rattle.std.specs.declared.cmp.Ordering.{Ordering}
use Rattle.ssb_cells.specs.Cell.{Cell, null}
use Rattle.ssb_cells.specs.Order.{cell_cmp}
use Rattle.ssb_cells.specs.Truth.{truth}
use Rattle.ssb_cells.specs.declared.truth.Truth.{Truth}
use Rattle.ssb_cells.specs.declared.truth.Truth.TheVariants.{Unknown}
use Rattle.ssb_terms.specs.declared.operator.Op.{Op}
use Rattle.ssb_terms.specs.declared.operator.Op.TheVariants.{Eq, Ne, Lt, Le, Gt, Ge}

-- which orders a comparison asks for
abbrev pub meets : Op → Ordering → Bool
meets Eq o = is_eq o
meets Ne o = is_ne o
meets Lt o = is_lt o
meets Le o = is_le o
meets Gt o = is_gt o
meets Ge o = is_ge o

-- a comparison with a null is Unknown
abbrev pub compare : Op → Cell → Cell → Truth
compare op null b = Unknown
compare op a null = Unknown
compare op a b = truth (meets op (cell_cmp a b))
