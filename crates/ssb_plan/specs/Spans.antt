-- The least and the greatest of a column's numbers.
-- Source: own.
use Rattle.std.specs.Prelude.{◌^◌, ◌-◌, pos, negsuc, List, fold}
use Rattle.std.specs.Int.{int_min, int_max}
use Rattle.ssb_cells.specs.Cell.{Cell, null, number, text}
use Rattle.ssb_plan.specs.declared.index.Span.{Span}

-- the span of no number, as those of an `int` go: its greatest is below its least
abbrev pub no_span : Span
no_span = record { least = pos (2 ^ 63 - 1); greatest = negsuc (2 ^ 63 - 1) }

-- a span with one value more; null and texts are no numbers
abbrev pub with_value : Span → Cell → Span
with_value s null = s
with_value s (number n) = record { least = int_min n s.least; greatest = int_max n s.greatest }
with_value s (text t) = s

-- that of the numbers among these values
abbrev pub span_of : List Cell → Span
span_of values = fold with_value no_span values
