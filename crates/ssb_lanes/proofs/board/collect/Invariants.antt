use Rattle.std.proofs.Common.{◌≡◌, length, map, take, vec_capacity}
use Rattle.std.specs.List.{All}
use Rattle.crossbeam_queue.specs.Passes.{view}
use Rattle.ssb_load.specs.Subject.{table}
use Rattle.ssb_lanes.specs.Berth.{AreOfEach, told_of}
use Rattle.ssb_lanes.specs.Lane.{IsLaneRead}
use Rattle.ssb_lanes.proofs.board.collect.Given as goal

-- the lanes before this place were taken out
abbrev pub invariant-loop-at : goal.invariant-loop-at
invariant-loop-at g l = record {
  each : AreOfEach l.berths l.passes.items;
  same : map view l.passes.items ≡ map view l.fn.passes.items;
  whole : map (λ lane. g.S.Source.whole lane.source) l.lanes.items ≡ take l.at (map (told_of g.S.Source.whole) (map view l.fn.passes.items));
  read : All (IsLaneRead g.S.Source (table l.context.rules.now l.context.max_rows)) l.lanes.items;
  count : length l.lanes.items ≡ l.at;
  room : vec_capacity l.lanes ≡ vec_capacity l.fn.lanes;
}
