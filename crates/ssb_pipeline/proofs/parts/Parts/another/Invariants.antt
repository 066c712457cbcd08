use Rattle.ssb_pipeline.proofs.Passes.{IsTwinned}
use Rattle.ssb_pipeline.proofs.parts.Parts.another.Given as goal

abbrev pub invariant-loop-section : goal.invariant-loop-section
invariant-loop-section l = IsTwinned l.pass-inside.passes.items l.passes.items l.fn.pass l.section
