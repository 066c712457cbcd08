use Rattle.std.proofs.Common.{◌≡◌, ◌+◌, drop}
use Rattle.std.specs.List.{list_any}
use Rattle.ssb_show.specs.Columns.{has_letters}
use Rattle.ssb_show.specs.Pieces.{line_of}
use Rattle.ssb_show.proofs.fields.Fields.has_letters_behind.Given as goal

abbrev pub invariant-loop-at : goal.invariant-loop-at
invariant-loop-at l = list_any has_letters (drop l.at (line_of l.self)) ≡ list_any has_letters (drop (l.place + 1) (line_of l.self))
