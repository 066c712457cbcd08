use Rattle.std.proofs.Common.{map, take}
use Rattle.ssb_groups.specs.GroupKeys.{AreUnique, keys_in}
use Rattle.ssb_groups.specs.Gathering.{key_at}
use Rattle.ssb_groups.specs.Places.{AreKeys, OpenAll}
use Rattle.ssb_groups.proofs.table.open_block.Given as goal

abbrev pub invariant-loop-at : goal.invariant-loop-at
invariant-loop-at l =
    record {
      unique : AreUnique l.keys;
      keys : AreKeys l.columns (keys_in l.keys);
      opened : OpenAll l.columns (keys_in l.fn.keys) (keys_in l.keys) (map (key_at l.columns) (take l.at l.block)) l.room.places.items;
    }
