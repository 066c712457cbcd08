use Rattle.std.proofs.Common.{◌≡◌, take}
use Rattle.ssb_groups.specs.Gathering.{AreTaken, facts_where, over_at}
use Rattle.ssb_groups.specs.Stands.{least, least_of}
use Rattle.ssb_groups.proofs.gather.gather_rows.Given as goal

abbrev pub invariant-loop-at : goal.invariant-loop-at
invariant-loop-at l =
    record {
      least : l.found ≡ least_of l.fn.so_far (least (facts_where l.job (over_at l.job l.aggregate) (take l.at l.block)));
      taken : AreTaken l.job l.aggregate (take l.at l.block) l.totals.items;
    }
