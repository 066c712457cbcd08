use Rattle.std.proofs.Common.{◌≡◌, Some}
use Rattle.crossbeam_queue.specs.Passes.{view, IsPassOf, IsSamePass}
use Rattle.ssb_lanes.specs.Berth.{IsKept, known_of}
use Rattle.ssb_lanes.proofs.berth.put.Given as goal

-- the lane is still to be put
abbrev pub invariant-loop : goal.invariant-loop
invariant-loop g l = record {
  queue : IsPassOf l.berth l.pass;
  same : IsSamePass l.fn.pass l.pass;
  known : view l.pass ≡ Some (known_of l.own);
  view : view l.pass ≡ view l.fn.pass;
  kept : IsKept g.S.Source l.own;
}
