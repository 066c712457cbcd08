use Rattle.std.proofs.Common.{◌≡◌, None, length}
use Rattle.std.specs.List.{All}
use Rattle.crossbeam_queue.specs.Passes.{ruled_capacity, view}
use Rattle.ssb_lanes.specs.Berth.{AreOfEach}
use Rattle.ssb_lanes.proofs.board.new_berths.Given as goal

-- so many queues are made
abbrev pub invariant-loop : goal.invariant-loop
invariant-loop g l = record {
  each : AreOfEach l.berths.items l.passes.items;
  single : All (λ b. ruled_capacity b ≡ 1) l.berths.items;
  new : All (λ p. view p ≡ None) l.passes.items;
  count : length l.berths.items ≡ l.counter;
}
