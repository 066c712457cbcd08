use Rattle.ssb_pipeline.proofs.FinishFacts.{IsFinished}
use Rattle.ssb_pipeline.proofs.finishing.finish_all.Given as goal

abbrev pub invariant-loop-section : goal.invariant-loop-section
invariant-loop-section g l = IsFinished l.parts l.fn.pass l.pass l.section l.groups
