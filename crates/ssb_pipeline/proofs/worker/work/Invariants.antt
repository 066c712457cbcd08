use Rattle.std.proofs.Common.{◌≡◌, ◌<◌, ◌≤◌, ◌⊎◌}
use Rattle.ssb_pipeline.specs.Pass.{AllSections, HoldsNone, IsPassOfParts, known}
use Rattle.ssb_pipeline.specs.Work.{IsExhausted, IsRound}
use Rattle.ssb_pipeline.proofs.worker.work.Given as goal

abbrev pub invariant-loop-section : goal.invariant-loop-section
invariant-loop-section g l = record {
  scratch : l.scratch ≡ l.parts.job;
  pass : IsPassOfParts l.parts l.pass;
  none : HoldsNone l.pass;
  rounds : AllSections (λ s w. IsRound (known l.fn.pass s) w) l.pass;
  ended : AllSections (λ s w. (l.first ≤ s) × (s < l.section) → IsExhausted w) l.pass;
}

abbrev pub invariant-loop-section-2 : goal.invariant-loop-section-2
invariant-loop-section-2 g l = record {
  scratch : l.scratch ≡ l.parts.job;
  pass : IsPassOfParts l.parts l.pass;
  none : HoldsNone l.pass;
  rounds : AllSections (λ s w. IsRound (known l.fn.pass s) w) l.pass;
  ended : AllSections (λ s w. (s < l.section) ⊎ (l.first ≤ s) → IsExhausted w) l.pass;
}
