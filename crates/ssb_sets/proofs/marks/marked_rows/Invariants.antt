use Rattle.std.proofs.Common.{◌≡◌, ◌*◌, ◌-◌, ◌≤◌, take}
use Rattle.std.specs.List.{filter, range_with_len}
use Rattle.ssb_sets.specs.Marks.{is_marked}
use Rattle.ssb_sets.proofs.marks.marked_rows.Given as goal

abbrev pub invariant-loop-at : goal.invariant-loop-at
invariant-loop-at l =
    record {
      count : l.left ≤ 64 * l.at;
      rows : take l.left l.rows ≡ filter (λ r. is_marked l.words (r - l.from)) (range_with_len l.from (64 * l.at));
    }
