use Rattle.std.proofs.Common.{◌≡◌, ◌++◌, drop, map}
use Rattle.ssb_rows.specs.Entries.{entry_cell, seen}
use Rattle.ssb_rows.proofs.rows_of.push_values.Given as goal

abbrev pub invariant-loop-item : goal.invariant-loop-item
invariant-loop-item l =
    l.cells ++ map (λ item. entry_cell (seen l.group) item.origin) (drop l.item-index l.item-items) ≡ l.fn.cells ++ map (λ item. entry_cell (seen l.group) item.origin) l.parts.items
