-- Numbers by which rows are ordered where they differ: a row whose number is less than another's comes first.
-- For the contracts inside this crate.
use Rattle.std.specs.Prelude.{◌^◌, ◌-◌, ◌-ℤ◌, ℕ, pos, min, List, [], ◌∷◌, Bool, if◌then◌else◌}
use Rattle.std.specs.Int.{int_gap}
use Rattle.std.specs.Ordering.{nat_cmp, ordering_then}
use Rattle.std.specs.declared.cmp.Ordering.{Ordering}
use Rattle.ssb_cells.specs.Cell.{Cell, null, number, text}
use Rattle.ssb_query.specs.declared.query.BoundOrder.{BoundOrder}
use Rattle.ssb_rows.specs.Kept.{keyed_row}
use Rattle.ssb_rows.specs.Order.{Row, at, row_cmp}
use Rattle.ssb_rows.specs.declared.order.SortKey.{SortKey}

abbrev pub greatest : ℕ
greatest = 2 ^ 64 - 1

-- null has the least, a number how far it is above the least of 64 bits, and all texts the greatest
abbrev pub lead_of : Cell → ℕ
lead_of null = 0
lead_of (number n) = min greatest (int_gap (pos 0 -ℤ pos (2 ^ 63)) n)
lead_of (text t) = greatest

abbrev pub lead_by : Bool → Cell → ℕ
lead_by descending c = if descending then greatest - lead_of c else lead_of c

-- that of a row: by the first order key, or by the first column where there is none
abbrev pub lead : List BoundOrder → Row → ℕ
lead [] row = lead_of (at row 0)
lead (order ∷ orders) row = lead_by order.descending (at row order.item)

-- a row's key with its number
abbrev pub with_lead : List BoundOrder → List Cell → ℕ → SortKey → SortKey
with_lead by cells width key = record { lead = lead by (keyed_row cells width key); from = key.from }

-- the order of two keys: by their numbers, and then by their rows
abbrev pub key_cmp : List BoundOrder → List Cell → ℕ → SortKey → SortKey → Ordering
key_cmp by cells width a b = ordering_then (nat_cmp a.lead b.lead) (row_cmp by (keyed_row cells width a) (keyed_row cells width b))
