use Rattle.std.proofs.Common.{◌<◌, List, length}
use Rattle.std.proofs.Math.ListN.{set}
use Rattle.ssb_cells.specs.Tables.{Columns}
use Rattle.ssb_groups.specs.declared.joining.Joining.TheVariants as joining
use Rattle.ssb_groups.proofs.TallyFacts.{JoinedTo}
use Rattle.ssb_groups.proofs.tallies.add_all.Given as goal

-- what is joined so far, where the total of the present place is written
abbrev pub invariant-loop-at : goal.invariant-loop-at
invariant-loop-at l =
    record {
      joined : (tables : List Columns) → JoinedTo tables joining.Adds l.places l.more l.initial.tally (set l.tally l.place l.total) l.at;
      within : l.place < length l.initial.tally;
    }
