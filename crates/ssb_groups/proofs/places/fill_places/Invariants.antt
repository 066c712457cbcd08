use Rattle.std.proofs.Common.{◌≡◌, length, map, take}
use Rattle.ssb_groups.specs.GroupKeys.{AreUnique, keys_in}
use Rattle.ssb_groups.specs.Places.{AreKeys, IsFound, OpenAll, number_cells}
use Rattle.ssb_groups.proofs.places.fill_places.Given as goal

abbrev pub invariant-loop-at : goal.invariant-loop-at
invariant-loop-at l =
    record {
      unique : AreUnique l.keys;
      keys : AreKeys l.columns (keys_in l.keys);
      many : length l.places ≡ length l.numbers;
      found : IsFound l.columns (keys_in l.keys) l.last;
      opened : OpenAll l.columns (keys_in l.fn.keys) (keys_in l.keys) (map (number_cells l.columns) (take l.at l.numbers)) (take l.at l.places);
    }
