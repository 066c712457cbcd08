use Rattle.std.proofs.Common.{◌≡◌, ◌++◌, None, Some, length, map}
use Rattle.crossbeam_queue.specs.Passes.{view}
use Rattle.ssb_lanes.specs.Berth.{AreOfEach, known}
use Rattle.ssb_lanes.proofs.board.lay_all.Given as goal

-- the lanes so far are laid
abbrev pub invariant-loop-lane : goal.invariant-loop-lane
invariant-loop-lane g l = record {
  each : AreOfEach l.berths l.passes.items;
  views : map view l.passes.items ≡ map (λ lane. Some (known lane.source l.rows)) l.yielded ++ map (λ _. None) l.lane-iterator.rest.items;
  rest : l.yielded ++ l.lane-iterator.rest.items ≡ l.fn.lanes.items;
  place : l.at ≡ length l.yielded;
}
