use Rattle.std.proofs.Common.{◌≡◌, ◌<◌, List, get_or, length}
use Rattle.std.proofs.Math.ListN.{set}
use Rattle.ssb_cells.specs.Tables.{Columns}
use Rattle.ssb_groups.specs.Tallies.{kept_numbers}
use Rattle.ssb_groups.specs.declared.joining.Joining.TheVariants as joining
use Rattle.ssb_groups.specs.declared.kept.KeptTotal.{KeptTotal}
use Rattle.ssb_groups.proofs.NumberFacts.{Adding, Shows}
use Rattle.ssb_groups.proofs.TallyFacts.{JoinedTo}
use Rattle.ssb_groups.proofs.tallies.add_numbers.Given as goal

-- once a number was added, any total that shows the sum may be written at the present place
abbrev pub invariant-loop-at : goal.invariant-loop-at
invariant-loop-at l =
    record {
      now : Adding l.places (kept_numbers l.more) l.initial.tally l.tally l.place l.at l.total;
      written : (tables : List Columns) (x : KeptTotal) → 0 < l.at → Shows x l.total → JoinedTo tables joining.Adds l.places (kept_numbers l.more) l.initial.tally (set l.tally l.place x) l.at;
      first : l.at ≡ 0 → l.place ≡ get_or l.places 0 0;
      within : l.place < length l.initial.tally;
    }
