use Rattle.std.proofs.Common.{◌≡◌, map}
use Rattle.std.specs.List.{All}
use Rattle.crossbeam_queue.specs.Passes.{view}
use Rattle.ssb_load.specs.TableIntake.{subject_of}
use Rattle.ssb_lanes.specs.Berth.{AreOfEach, IsHand}
use Rattle.ssb_lanes.proofs.board.add_hands.Given as goal

abbrev pub invariant-loop : goal.invariant-loop
invariant-loop g l = record {
  each : AreOfEach l.berths l.passes.items;
  same : map view l.passes.items ≡ map view l.fn.passes.items;
  hands : All (λ h. IsHand (subject_of l.rows) l.berths h.items) l.hands.items;
}
