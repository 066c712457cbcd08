-- Rows of an answer by the entries of its groups.
-- For the contracts inside this crate.
use Rattle.std.specs.Prelude.{◌≡◌, ℕ, Bool, true, false, ⊤, List, [], ◌∷◌, ◌++◌, length, map, Option, None, Some}
use Rattle.std.specs.List.{filter, list_any}
use Rattle.ssb_cells.specs.Cell.{Cell}
use Rattle.ssb_cells.specs.Truth.{is_true}
use Rattle.ssb_cells.specs.Values.{cell_of}
use Rattle.ssb_trees.specs.declared.operand.Operand.{Operand}
use Rattle.ssb_trees.specs.declared.operand.Operand.TheVariants as operand
use Rattle.ssb_conditions.specs.Holds.{Valuation, literal_cell}
use Rattle.ssb_query.specs.declared.column.BoundColumn.{BoundColumn}
use Rattle.ssb_query.specs.declared.query.QueryParts.{QueryParts}
use Rattle.ssb_query.specs.declared.query.Origin.{Origin}
use Rattle.ssb_query.specs.declared.query.Origin.TheVariants as origin
use Rattle.ssb_groups.specs.Aggregates.{totals}
use Rattle.ssb_groups.specs.Rows.{Key}
use Rattle.ssb_groups.specs.Totals.{total_cell}
use Rattle.ssb_groups.specs.declared.groups.Group.{Group}
use Rattle.ssb_rows.specs.Kept.{keyed_rows}
use Rattle.ssb_rows.specs.Kept as kept
use Rattle.ssb_rows.specs.Order.{Row}
use Rattle.ssb_rows.specs.Result.{at_or_null, having_says, is_beyond}
use Rattle.ssb_rows.specs.declared.fault.AnswerFault.{AnswerFault}
use Rattle.ssb_rows.specs.declared.keyed.KeyedRows.{KeyedRows}
use Rattle.ssb_rows.specs.declared.fault.AnswerFault.TheVariants as fault

abbrev pub Entry : Type 0
Entry = Key × List Cell

-- a group, as an entry
abbrev pub seen : Group → Entry
seen g = (map cell_of g.key.items, map total_cell g.totals.items)

abbrev pub entry_beyond : Entry → Bool
entry_beyond e = list_any is_beyond e.1

abbrev pub entry_cell : Entry → Origin → Cell
entry_cell e (origin.Group i) = at_or_null e.0 i
entry_cell e (origin.Aggregate i) = at_or_null e.1 i

abbrev pub entry_row : QueryParts → Entry → Row
entry_row q e = map (λ item. entry_cell e item.origin) q.items

-- the value of an operand of HAVING
abbrev pub entry_operand : Entry → Valuation (Operand Origin)
entry_operand e (operand.Column o) = entry_cell e o
entry_operand e (operand.Literal l) = literal_cell l

-- whether HAVING keeps an entry
abbrev pub entry_kept : QueryParts → Entry → Bool
entry_kept q e = is_true (having_says (entry_operand e) q.having)

-- the rows of the entries that HAVING keeps
abbrev pub entry_rows : QueryParts → List Entry → List Row
entry_rows q es = map (entry_row q) (filter (entry_kept q) es)

-- the whole as one group over no row
abbrev pub whole_entry : QueryParts → Entry
whole_entry q = ([], totals q.aggregates [])

abbrev pub entries_by : QueryParts → List BoundColumn → List Entry → List Entry
entries_by q [] [] = whole_entry q ∷ []
entries_by q [] (e ∷ es) = e ∷ es
entries_by q (x ∷ xs) es = es

-- the entries that rows are made of: without GROUP BY the whole is one group, also where it is empty
abbrev pub all_entries : QueryParts → List Entry → List Entry
all_entries q es = entries_by q q.groups es

-- why rows are refused: a sum beyond the range, or memory
abbrev pub IsBeyondFault : Bool → AnswerFault → Type 0
IsBeyondFault beyond (fault.RowOverflow n) = ⊥
IsBeyondFault beyond fault.SumOutOfRange = beyond ≡ true
IsBeyondFault beyond fault.Memory = ⊤
IsBeyondFault beyond fault.Write = ⊥

-- an entry does not leave the range, and its row, if HAVING keeps it, was put behind others
abbrev pub AddsRow : QueryParts → Option Entry → List Row → List Row → Type 0
AddsRow q None old new = ⊥
AddsRow q (Some e) old new = (entry_beyond e ≡ false) × (new ≡ old ++ entry_rows q (e ∷ []))

-- why an entry has no row, be it kept or not
abbrev pub IsFaultAt : Option Entry → AnswerFault → Type 0
IsFaultAt None f = ⊥
IsFaultAt (Some e) f = IsBeyondFault (entry_beyond e) f

-- these are the rows of the entries that HAVING keeps; no entry leaves the range, be it kept or not
abbrev pub AreRowsOf : QueryParts → List Entry → List Row → Type 0
AreRowsOf q es rows = (list_any entry_beyond es ≡ false) × (rows ≡ entry_rows q es)

-- why the entries have no rows
abbrev pub IsFaultOf : List Entry → AnswerFault → Type 0
IsFaultOf es f = IsBeyondFault (list_any entry_beyond es) f

-- ---- rows as they are found

abbrev pub width_of : QueryParts → ℕ
width_of q = length q.items

abbrev pub found_rows : QueryParts → KeyedRows → List Row
found_rows q found = keyed_rows found.cells (width_of q) found.keys.items

-- each row that was found lies among the cells
abbrev pub AreFoundWithin : QueryParts → KeyedRows → Type 0
AreFoundWithin q found = kept.AreWithin found.cells (width_of q) found.keys.items
