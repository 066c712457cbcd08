use Rattle.std.proofs.Common.{◌≡◌, ◌++◌, drop, string_bytes}
use Rattle.std.specs.List.{All}
use Rattle.ssb_rows.specs.Kept.{AreWithin, IsKeptValue, keyed_rows}
use Rattle.ssb_rows.proofs.cells.Cells.in_order.Given as goal

abbrev pub invariant-loop-key : goal.invariant-loop-key
invariant-loop-key l =
    AreWithin l.copied.items l.width l.places.items
    × (keyed_rows l.copied.items l.width l.places.items ++ keyed_rows l.values.items l.width (drop l.key-index l.keys) ≡ keyed_rows l.values.items l.width l.keys)
    × All (IsKeptValue (string_bytes l.texts)) l.copied.items
