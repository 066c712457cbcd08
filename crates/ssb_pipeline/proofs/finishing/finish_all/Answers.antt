use Rattle.std.proofs.Common.{◌∙◌, arith, sym, true≢false}
use Rattle.ssb_pipeline.proofs.FinishFacts.{all-taken, begun, ended, first-taken, fit, one-more, over-all}
use Rattle.ssb_pipeline.proofs.finishing.finish_all.Goals as goal

pub loop-section-init : goal.loop-section-init
loop-section-init g c =
    let f = c.in_ok-groups.ensures in
    begun c.args.parts.now c.requires.some c.args.pass.now c.finish_section.new.pass c.in_ok-groups.groups f.only f.pass f.over (λ h. true≢false (sym (f.refused h))) f.taken (λ h. true≢false (sym (f.recorded h))) f.same

pub merged-requires-clause-one_job : goal.merged-requires-clause-one_job
merged-requires-clause-one_job g c = c.loop-section.invariant.over.job ∙ sym c.in-Ok.ensures.over.job

pub merged-requires-clause-few : goal.merged-requires-clause-few
merged-requires-clause-few g c =
    let l = c.loop-section in
    fit c.args.parts.now c.requires.some c.args.pass.now l.pass c.finish_section-in-loop-section.new.pass l.section l.groups c.in-Ok.more l.invariant c.in-Ok.ensures.over c.fact_table.ensures.few

pub loop-section-preserved : goal.loop-section-preserved
loop-section-preserved g c =
    let l = c.loop-section in
    let f = c.in-Ok.ensures in
    one-more c.args.parts.now c.requires.some c.args.pass.now l.pass c.finish_section-in-loop-section.new.pass l.section l.groups c.in-Ok.more l.invariant f.over c.in_ok-groups-in-Ok.groups c.in_ok-groups-in-Ok.ensures l.auto.section f.only f.pass (λ h. true≢false (sym (f.refused h))) f.taken (λ h. true≢false (sym (f.recorded h)))

pub returns-clause-stands : goal.returns-clause-stands
returns-clause-stands g c =
    let l = c.loop-section in
    let k = c.sections-section-end.ensures in
    let t = c.loop-section-test.false in
    let a = l.auto.section in
    let some = c.requires.some in
    over-all c.args.parts.now.job c.args.parts.now.size l.groups c.requires.size c.fact_table.ensures.named (ended c.args.parts.now some c.args.pass.now l.pass l.section l.groups l.invariant (omega (arith, k, t, a, some)))

pub returns-clause-job : goal.returns-clause-job
returns-clause-job g c = c.loop-section.invariant.over.job

pub returns-clause-refused : goal.returns-clause-refused
returns-clause-refused g c = λ s in_s gave.
    let k = c.sections-section-end.ensures in
    let t = c.loop-section-test.false in
    absurd (c.loop-section.invariant.clear s (omega (arith, k, t, in_s)) gave)

pub returns-clause-taken : goal.returns-clause-taken
returns-clause-taken g c = let a = c.loop-section.auto.section in c.loop-section.invariant.taken 0 (omega (arith, a))

pub returns-clause-recorded : goal.returns-clause-recorded
returns-clause-recorded g c =
    let l = c.loop-section in
    let k = c.sections-section-end.ensures in
    let t = c.loop-section-test.false in
    let a = l.auto.section in
    let some = c.requires.some in
    all-taken c.args.parts.now some c.args.pass.now l.pass l.section l.groups l.invariant (omega (arith, k, t, a, some))

pub returns-clause-same : goal.returns-clause-same
returns-clause-same g c = λ one whole.
    let l = c.loop-section in
    let k = c.sections-section-end.ensures in
    let t = c.loop-section-test.false in
    let a = l.auto.section in
    let some = c.requires.some in
    l.invariant.same (omega (arith, k, t, a, some, one)) whole

pub returns-in_err-groups-in-Ok-clause-taken : goal.returns-in_err-groups-in-Ok-clause-taken
returns-in_err-groups-in-Ok-clause-taken g c =
    let l = c.loop-section in
    first-taken c.args.parts.now c.requires.some c.args.pass.now l.pass c.finish_section-in-loop-section.new.pass l.section l.groups l.invariant l.auto.section c.in-Ok.ensures.only

pub returns-in-Err-clause-taken : goal.returns-in-Err-clause-taken
returns-in-Err-clause-taken g c =
    let l = c.loop-section in
    first-taken c.args.parts.now c.requires.some c.args.pass.now l.pass c.finish_section-in-loop-section.new.pass l.section l.groups l.invariant l.auto.section c.in-Err.ensures.only
