use Rattle.std.proofs.Common.{◌≡◌}
use Rattle.crossbeam_queue.specs.Passes.{view, IsPassOf, IsSamePass}
use Rattle.ssb_pipeline.proofs.line.take_one.Given as goal

abbrev pub invariant-loop : goal.invariant-loop
invariant-loop g l = record { queue : IsPassOf l.line l.pass; same : IsSamePass l.fn.pass l.pass; view : view l.pass ≡ view l.fn.pass }
