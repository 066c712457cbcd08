-- What a contract sees of a value.
-- Source: own.
use Rattle.std.specs.Prelude.{Bool, true, false}
use Rattle.ssb_cells.specs.Cell.{Cell, null, number, text}
use Rattle.ssb_cells.specs.declared.value.Value.{Value}
use Rattle.ssb_cells.specs.declared.value.Value.TheVariants as values

abbrev pub cell_of : Value → Cell
cell_of values.Null = null
cell_of (values.Int n) = number n
cell_of (values.Text t) = text t.now

abbrev pub is_null_value : Value → Bool
is_null_value values.Null = true
is_null_value (values.Int n) = false
is_null_value (values.Text t) = false
