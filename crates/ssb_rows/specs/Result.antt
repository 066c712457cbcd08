-- What a query answers of the rows that WHERE keeps: a row for each group that HAVING keeps, or the overflow.
-- Source: SQL-92, 6.5 <set function specification>, 7.7 <group by clause>, 7.8 <having clause>, 7.9 <query specification>; that an overflow of a row goes
-- before one of a sum, that both go before HAVING, and that only the exact sum has a range, are this project's own.
use Rattle.std.specs.Prelude.{◌≡◌, ℕ, Bool, true, false, not, List, [], ◌∷◌, map, length, Option, None, Some, Result, Ok, Err, slice_get, unwrap_or, ⊤, All}
use Rattle.std.specs.List.{filter, list_any}
use Rattle.ssb_cells.specs.Cell.{Cell, null, number, text}
use Rattle.ssb_cells.specs.Truth.{is_true}
use Rattle.ssb_cells.specs.declared.truth.Truth.{Truth}
use Rattle.ssb_cells.specs.declared.truth.Truth.TheVariants.{True}
use Rattle.ssb_trees.specs.Conditions.{Filter}
use Rattle.ssb_trees.specs.declared.operand.Operand.{Operand}
use Rattle.ssb_trees.specs.declared.operand.Operand.TheVariants as operand
use Rattle.ssb_conditions.specs.Holds.{Valuation, holds, literal_cell}
use Rattle.ssb_query.specs.declared.column.BoundColumn.{BoundColumn}
use Rattle.ssb_query.specs.declared.query.QueryParts.{QueryParts}
use Rattle.ssb_query.specs.declared.query.Origin.{Origin}
use Rattle.ssb_query.specs.declared.query.Origin.TheVariants as origin
use Rattle.ssb_groups.specs.Aggregates.{totals}
use Rattle.ssb_groups.specs.Rows.{Key, key_eq, SeenRow}
use Rattle.ssb_groups.specs.Stands.{overflows, least, group}
use Rattle.ssb_groups.specs.Value.{in_range}
use Rattle.ssb_rows.specs.Order.{Row, IsOrdered}
use Rattle.ssb_rows.specs.declared.fault.AnswerFault.{AnswerFault}
use Rattle.ssb_rows.specs.declared.fault.AnswerFault.TheVariants as fault

-- ---- groups

-- each key once
abbrev pub distinct : List Key → List Key
distinct [] = []
distinct (k ∷ ks) = k ∷ filter (λ j. not (key_eq k j)) (distinct ks)

-- the keys of the rows, nulls equal
abbrev pub present : List SeenRow → List Key
present R = distinct (map (λ r. r.key) R)

-- the keys of the groups: without GROUP BY the whole is one group, also where it is empty
abbrev pub keys : List BoundColumn → List SeenRow → List Key
keys [] R = [] ∷ []
keys (x ∷ xs) R = present R

-- ---- aggregates

-- a value is beyond the range of an `int`; a COUNT of fewer than 2^63 rows is not, nor is the least or greatest of values in it
abbrev pub is_beyond : Cell → Bool
is_beyond null = false
is_beyond (number n) = not (in_range n)
is_beyond (text t) = false

abbrev pub has_beyond : QueryParts → List SeenRow → Bool
has_beyond q G = list_any is_beyond (totals q.aggregates G)

-- some sum of a group leaves the range, whether HAVING keeps the group or not
abbrev pub leaves_range : QueryParts → List SeenRow → Bool
leaves_range q R = list_any (λ k. has_beyond q (group k R)) (keys q.groups R)

-- ---- rows

-- the value at a place, from 0
abbrev pub at_or_null : List Cell → ℕ → Cell
at_or_null cells i = unwrap_or (slice_get cells i) null

-- a value of a group's row: one of its key, or one of its aggregates
abbrev pub item_cell : QueryParts → List SeenRow → Key → Origin → Cell
item_cell q G k (origin.Group i) = at_or_null k i
item_cell q G k (origin.Aggregate i) = at_or_null (totals q.aggregates G) i

-- the row of a group
abbrev pub row_of : QueryParts → List SeenRow → Key → Row
row_of q G k = map (λ item. item_cell q G k item.origin) q.items

-- ---- HAVING

-- the value of an operand of HAVING: one of the group's key or aggregates, or a literal's
abbrev pub operand_cell : QueryParts → List SeenRow → Key → Valuation (Operand Origin)
operand_cell q G k (operand.Column o) = item_cell q G k o
operand_cell q G k (operand.Literal l) = literal_cell l

-- what HAVING says: True where it is not there
abbrev pub having_says : Valuation (Operand Origin) → Option (Filter Origin) → Truth
having_says v None = True
having_says v (Some c) = holds v c

-- whether HAVING keeps a group: that of which it is True, and none of which it is False or Unknown
abbrev pub is_kept : QueryParts → List SeenRow → Key → Bool
is_kept q G k = is_true (having_says (operand_cell q G k) q.having)

-- the keys of the groups that HAVING keeps
abbrev pub kept_keys : QueryParts → List SeenRow → List Key
kept_keys q R = filter (λ k. is_kept q (group k R) k) (keys q.groups R)

-- ---- the answer

-- one row for each key that HAVING keeps, in no order
abbrev pub bag : QueryParts → List SeenRow → List Row
bag q R = map (λ k. row_of q (group k R) k) (kept_keys q R)

-- keys have a value for each group column
abbrev pub AreKeyed : QueryParts → List SeenRow → Type 0
AreKeyed q R = All (λ r. length r.key ≡ length q.groups) R

-- The ordered rows; or the least fact row of an overflow; or, where there is none, that a sum leaves the range; or that a growth was refused.
abbrev pub Answers : QueryParts → List SeenRow → Result (List Row) AnswerFault → Type 0
Answers q R (Ok rows) = (least (overflows R) ≡ None) × (leaves_range q R ≡ false) × IsOrdered q.orders (bag q R) rows
Answers q R (Err (fault.RowOverflow n)) = least (overflows R) ≡ Some n
Answers q R (Err fault.SumOutOfRange) = (least (overflows R) ≡ None) × (leaves_range q R ≡ true)
Answers q R (Err fault.Memory) = ⊤
Answers q R (Err fault.Write) = ⊥
