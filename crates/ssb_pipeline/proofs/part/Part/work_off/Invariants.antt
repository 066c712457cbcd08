use Rattle.ssb_job.specs.Kept.{AreOneJob}
use Rattle.std.proofs.Common.{◌-◌, length}
use Rattle.ssb_pipeline.specs.Part.{ours}
use Rattle.ssb_pipeline.proofs.WorkFacts.{IsWorked}
use Rattle.ssb_pipeline.proofs.part.Part.work_off.Given as goal

abbrev pub invariant-loop-ticket : goal.invariant-loop-ticket
invariant-loop-ticket l =
    record {
      worked : IsWorked l.fn.self l.self;
      scratch : AreOneJob l.scratch l.self.job;
    }

abbrev pub decreases-loop-ticket : goal.decreases-loop-ticket
decreases-loop-ticket l = length (ours l.self) - length l.self.handed
