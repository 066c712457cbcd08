use Rattle.std.proofs.Common.{◌≡◌}
use Rattle.ssb_pipeline.specs.Pass.{known}
use Rattle.ssb_pipeline.specs.Work.{IsRound, StaysReady}
use Rattle.ssb_pipeline.proofs.worker.work_section.Given as goal

abbrev pub invariant-loop : goal.invariant-loop
invariant-loop g l = record {
  scratch : l.scratch ≡ l.fn.scratch;
  ready : StaysReady l.parts l.section l.fn.pass l.pass;
  round : IsRound (known l.fn.pass l.section) (known l.pass l.section);
}
