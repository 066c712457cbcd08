use Rattle.std.proofs.Common.{◌≡◌, ◌<◌, ◌∙◌, refl, sym, subst, arith}
use Rattle.std.proofs.lemmas.List.{length-map}
use Rattle.std.proofs.lemmas.List.Elements.{All-nil, All-push}
use Rattle.ssb_pipeline.specs.Pass.{queue_name, pass_view, IsSingle}
use Rattle.ssb_pipeline.proofs.Passes.{begins_pass, opened_none, opened_step, opened_count, state_of}
use Rattle.ssb_pipeline.proofs.parts.Parts.open_first.Goals as goal

pub loop-section-init : goal.loop-section-init
loop-section-init g c = rw (c.new-queues.ensures.items, c.new-passes.ensures.items) (record { opened = opened_none queue_name _ _ c.args.sections; single = All-nil IsSingle })

pub loop-section-preserved : goal.loop-section-preserved
loop-section-preserved g c =
    let i = c.loop-section.invariant in
    let s = c.in_ok-line.ensures in
    rw (c.in_ok-push.ensures.items, c.in_ok-push-2.ensures.items) (record {
      opened = opened_step queue_name _ _ c.args.sections c.loop-section.queues.items c.loop-section.passes.items c.loop-section.section c.in_ok-line.line c.in_ok-line.pass _ i.opened s.queue.0.0 s.queue.0.1 s.knows s.opening;
      single = All-push IsSingle _ _ i.single s.queue.1;
    })

pub returns-clause-pass : goal.returns-clause-pass
returns-clause-pass g c =
    let o = c.loop-section.invariant.opened in
    let all = c.loop-section-test.false in
    let within = c.loop-section.auto.section-end in
    let n : c.loop-section.section ≡ c.args.sections = omega arith in
    begins_pass _ (state_of c.loop-section.passes.items) c.args.sections o.names (length-map c.loop-section.queues.items queue_name ∙ (o.count ∙ n))
    (length-map c.loop-section.passes.items pass_view ∙ (opened_count queue_name _ _ c.args.sections c.loop-section.queues.items c.loop-section.passes.items c.loop-section.section o ∙ n))
    (λ s in_s. o.views s (subst (λ l. s < l) (sym n) in_s))

pub returns-clause-job : goal.returns-clause-job
returns-clause-job g c =
    let all = c.loop-section-test.false in
    let within = c.loop-section.auto.section-end in
    let n : c.loop-section.section ≡ c.args.sections = omega arith in
    (refl, refl, length-map c.loop-section.queues.items queue_name ∙ (c.loop-section.invariant.opened.count ∙ n))

pub invariant_of-result : goal.invariant_of-result
invariant_of-result g c =
    let all = c.loop-section-test.false in
    let within = c.loop-section.auto.section-end in
    let n : c.loop-section.section ≡ c.args.sections = omega arith in
    (c.loop-section.invariant.single, c.loop-section.invariant.opened.count ∙ n)

pub invariant_of-result-2 : goal.invariant_of-result-2
invariant_of-result-2 g c = c.loop-section.invariant.opened.rest
