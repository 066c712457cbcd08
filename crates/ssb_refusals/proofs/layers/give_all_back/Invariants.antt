use Rattle.ssb_job.specs.Kept.{AreOneJob}
use Rattle.ssb_refusals.proofs.layers.give_all_back.Given as goal

abbrev pub invariant-loop : goal.invariant-loop
invariant-loop l = AreOneJob l.part.job l.job
