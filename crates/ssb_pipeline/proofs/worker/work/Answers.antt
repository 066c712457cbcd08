use Rattle.std.proofs.Common.{◌∙◌, ◌<◌, ◌≤◌, ◌⊎◌, inl, inr, ⊎_elim, arith, rules, ◌+◌}
use Rattle.std.proofs.lemmas.Bool.{cases_lt}
use Rattle.ssb_pipeline.specs.Pass.{known}
use Rattle.ssb_pipeline.proofs.Rounds.{round_self, rounds_step, ended_step}
use Rattle.std.proofs.lemmas.Grind.{common_steps}
use Rattle.ssb_pipeline.proofs.worker.work.Goals as goal

pub loop-section-init : goal.loop-section-init
loop-section-init g c = record {
  scratch = c.scratch-scratch.ensures;
  pass = c.requires.pass;
  none = c.requires.none;
  rounds = λ s _. round_self (known c.args.pass.now s);
  ended = λ s _ d. let from = d.0 in let below = d.1 in absurd (omega (arith, from, below));
}

pub work_section-requires : goal.work_section-requires
work_section-requires g c =
    let i = c.loop-section.invariant in
    let k = c.sections-sections.ensures in
    let t = c.loop-section-test.true in
    record { ready = record { there = omega (arith, k, t); pass = i.pass; none = i.none }; some = c.requires.some; scratch = i.scratch }

pub loop-section-preserved : goal.loop-section-preserved
loop-section-preserved g c =
    let q = c.loop-section.pass in
    let h = c.loop-section.invariant.pass.count in
    let k = c.sections-sections.ensures in
    let t = c.loop-section-test.true in
    let first = c.if-sections-eq0.first in
    let w = c.work_section.ensures in record {
      scratch = w.same ∙ c.loop-section.invariant.scratch;
      pass = w.ready.pass;
      none = w.ready.none;
      rounds = rounds_step c.args.pass.now q c.work_section.new.pass c.loop-section.section (omega arith) c.loop-section.invariant.rounds w.ready.only w.round;
      ended = ended_step (λ s. (first ≤ s) × (s < c.loop-section.section + 1)) q c.work_section.new.pass c.loop-section.section (omega arith)
          (λ s in_s ne d. c.loop-section.invariant.ended s in_s (d.0, let d1 = d.1 in omega arith)) w.ready.only w.ended;
    }

pub loop-section-2-preserved : goal.loop-section-2-preserved
loop-section-2-preserved g c =
    let q = c.loop-section-2.pass in
    let h = c.loop-section-2.invariant.pass.count in
    let k = c.sections-sections.ensures in
    let t = c.loop-section-2-test.true in
    let first = c.if-sections-eq0.first in
    let f = c.loop-section-2.auto.section-end in
    let w = c.work_section-in-loop-section-2.ensures in record {
      scratch = w.same ∙ c.loop-section-2.invariant.scratch;
      pass = w.ready.pass;
      none = w.ready.none;
      rounds = rounds_step c.args.pass.now q c.work_section-in-loop-section-2.new.pass c.loop-section-2.section (search rules) c.loop-section-2.invariant.rounds w.ready.only w.round;
      ended = ended_step (λ s. (s < c.loop-section-2.section + 1) ⊎ (first ≤ s)) q c.work_section-in-loop-section-2.new.pass c.loop-section-2.section (search rules)
          (λ s in_s ne d. c.loop-section-2.invariant.ended s in_s (⊎_elim (λ (l : s < c.loop-section-2.section + 1). inl (omega arith)) inr d)) w.ready.only w.ended;
    }

pub returns : goal.returns
returns g c =
    let i = c.loop-section-2.invariant in
    let done = c.loop-section-2-test.false in
    record {
      pass = i.pass;
      none = i.none;
      rounds = i.rounds;
      ended = λ s in_s. i.ended s in_s (elim (cases_lt s c.loop-section-2.section) [ inl before ↦ inl before | inr behind ↦ inr (omega (arith, done, behind)) ]);
    }

pub loop-section-2-init : goal.loop-section-2-init
loop-section-2-init g c =
    let i = c.loop-section.invariant in
    let count = i.pass.count in
    let k = c.sections-sections.ensures in
    let past = c.loop-section-test.false in
    record {
      scratch = i.scratch;
      pass = i.pass;
      none = i.none;
      rounds = i.rounds;
      ended = λ s in_s d. elim d [ inl before ↦ absurd (omega (arith, before)) | inr from ↦ i.ended s in_s (from, omega (arith, in_s, count, k, past)) ];
    }

pub work_section-requires-in-loop-section-2 : goal.work_section-requires-in-loop-section-2
work_section-requires-in-loop-section-2 g c = grind (arith, common_steps)
