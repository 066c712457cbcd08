use Rattle.std.proofs.Common.{◌≡◌, length}
use Rattle.ssb_pipeline.specs.Tickets.{has_twice, morsels_of}
use Rattle.ssb_pipeline.proofs.batch.has_twice.Given as goal

abbrev pub invariant-loop-rest : goal.invariant-loop-rest
invariant-loop-rest l = has_twice (morsels_of l.tickets) ≡ has_twice (morsels_of l.rest)

abbrev pub decreases-loop-rest : goal.decreases-loop-rest
decreases-loop-rest l = length l.rest
