-- What an aggregate's value is, as callers see it.
use Rattle.ssb_cells.specs.Cell.{Cell, null, number, text}
use Rattle.ssb_groups.specs.declared.totals.Total.{Total}
use Rattle.ssb_groups.specs.declared.totals.Total.TheVariants as total

abbrev pub total_cell : Total → Cell
total_cell total.Null = null
total_cell (total.Number n) = number n
total_cell (total.Text t) = text t.now
