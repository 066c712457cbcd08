use Rattle.std.proofs.Common.{◌≡◌, map}
use Rattle.crossbeam_queue.specs.Passes.{view}
use Rattle.ssb_lanes.specs.Berth.{AreOfEach}
use Rattle.ssb_lanes.proofs.BoardFacts.{AreHanded}
use Rattle.ssb_lanes.proofs.board.hand_of.Given as goal

abbrev pub invariant-loop-at : goal.invariant-loop-at
invariant-loop-at g l = record {
  each : AreOfEach l.berths l.passes.items;
  same : map view l.passes.items ≡ map view l.fn.passes.items;
  handed : AreHanded l.berths (map view l.fn.passes.items) l.at l.hand.items;
}
