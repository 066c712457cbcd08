use Rattle.std.proofs.Common.{◌≡◌, ◌++◌, drop}
use Rattle.std.specs.List.{list_any}
use Rattle.ssb_rows.specs.Entries.{AreFoundWithin, entry_beyond, entry_rows, found_rows}
use Rattle.ssb_rows.proofs.rows_of.group_rows.Given as goal

-- the rest decides what the whole decides
abbrev pub invariant-loop-at : goal.invariant-loop-at
invariant-loop-at l =
    AreFoundWithin l.parts l.found
    × (list_any entry_beyond (drop l.at l.groups.entries) ≡ list_any entry_beyond l.groups.entries)
    × (found_rows l.parts l.found ++ entry_rows l.parts (drop l.at l.groups.entries) ≡ entry_rows l.parts l.groups.entries)
