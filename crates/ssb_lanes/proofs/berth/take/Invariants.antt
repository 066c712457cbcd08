use Rattle.std.proofs.Common.{◌≡◌}
use Rattle.crossbeam_queue.specs.Passes.{view, IsPassOf, IsSamePass}
use Rattle.ssb_lanes.proofs.berth.take.Given as goal

-- the pass knows what it knew
abbrev pub invariant-loop : goal.invariant-loop
invariant-loop g l = record { queue : IsPassOf l.berth l.pass; same : IsSamePass l.fn.pass l.pass; view : view l.pass ≡ view l.fn.pass }
