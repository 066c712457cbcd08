use Rattle.std.proofs.Common.{List}
use Rattle.ssb_cells.specs.Tables.{Filled}
use Rattle.ssb_lanes.specs.Joining.{AreJoined}
use Rattle.ssb_lanes.proofs.JoiningFacts.{AreCollected}
use Rattle.ssb_lanes.proofs.joining.joined_columns.Given as goal

abbrev pub invariant-loop-joining : goal.invariant-loop-joining
invariant-loop-joining l = (stacks : List Filled) → AreJoined stacks l.fn.joinings.items → AreCollected stacks l.columns.items l.joining-iterator.rest.items
