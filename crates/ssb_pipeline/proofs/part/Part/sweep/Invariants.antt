use Rattle.ssb_job.specs.Kept.{AreOneJob}
use Rattle.ssb_pipeline.proofs.SweepFacts.{IsSwept}
use Rattle.ssb_pipeline.proofs.part.Part.sweep.Given as goal

abbrev pub invariant-loop-morsel : goal.invariant-loop-morsel
invariant-loop-morsel l =
    record {
      swept : IsSwept l.fn.self l.self l.first l.end l.morsel;
      scratch : AreOneJob l.scratch l.self.job;
    }
