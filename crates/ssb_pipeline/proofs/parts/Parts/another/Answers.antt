use Rattle.std.proofs.Common.{◌≡◌, ◌<◌, ap, ◌∙◌, sym, subst, length, arith, true, false}
use Rattle.std.proofs.lemmas.List.{length-map}
use Rattle.ssb_pipeline.specs.Rule.{Knows}
use Rattle.ssb_pipeline.specs.Pass.{queue_name, pass_name, known, IsAtRest}
use Rattle.ssb_pipeline.proofs.Passes.{beside, image_at, each_at, known_at, unchanged, twin_end, twin_step}
use Rattle.ssb_pipeline.proofs.parts.Parts.another.Goals as goal

pub another_one-requires-clause-queue : goal.another_one-requires-clause-queue
another_one-requires-clause-queue c =
    let names = ap (λ p. p.queues) c.loop-section.invariant.same ∙ c.requires.pass.queues ∙ sym (ap (λ p. p.queues) c.self.view_is) in
    let in_queues : c.loop-section.section < length c.self.inside.queues.items = (let h = c.loop-section-test.true in let k = c.len-section-end.ensures in omega arith) in
    let in_passes = beside pass_name queue_name c.loop-section.pass-inside.passes.items c.self.inside.queues.items c.loop-section.section names in_queues in
    (image_at pass_name queue_name _ _ _ _ _ names in_passes in_queues c.index_mut.ensures.value c.index.ensures, each_at IsAtRest _ _ _ c.loop-section.invariant.rest in_passes c.index_mut.ensures.value)

pub another_one-requires-clause-opened : goal.another_one-requires-clause-opened
another_one-requires-clause-opened c =
    let names = ap (λ p. p.queues) c.loop-section.invariant.same ∙ c.requires.pass.queues ∙ sym (ap (λ p. p.queues) c.self.view_is) in
    let in_queues : c.loop-section.section < length c.self.inside.queues.items = (let h = c.loop-section-test.true in let k = c.len-section-end.ensures in omega arith) in
    let in_passes = beside pass_name queue_name c.loop-section.pass-inside.passes.items c.self.inside.queues.items c.loop-section.section names in_queues in
    let s = c.loop-section.section in
    let in_views = subst (λ l. s < l) (sym (length-map c.self.inside.queues.items queue_name) ∙ ap (λ p. length p.queues) c.self.view_is ∙ sym c.requires.pass.count) in_queues in
    let is = ap (λ p. known p s) (sym c.loop-section.invariant.same) ∙ known_at c.loop-section.pass-inside.passes.items s c.index_mut.result.now in_passes c.index_mut.ensures.value in
    subst (λ (v : Knows). (v.opened ≡ true) × (v.holds ≡ false)) is ((c.requires.pass.each s in_views).opened, c.requires.none s in_views)

pub returns-in_err-push-clause-same : goal.returns-in_err-push-clause-same
returns-in_err-push-clause-same c =
    unchanged c.loop-section.pass-inside.passes.items c.loop-section.section c.index_mut.result.now c.another_one.new.pass c.index_mut.ensures.value c.another_one.ensures.queue.0.0 c.another_one.ensures.same ∙ c.loop-section.invariant.same

pub loop-section-preserved : goal.loop-section-preserved
loop-section-preserved c =
    let names = ap (λ p. p.queues) c.loop-section.invariant.same ∙ c.requires.pass.queues ∙ sym (ap (λ p. p.queues) c.self.view_is) in
    let in_queues : c.loop-section.section < length c.self.inside.queues.items = (let h = c.loop-section-test.true in let k = c.len-section-end.ensures in omega arith) in
    let in_passes = beside pass_name queue_name c.loop-section.pass-inside.passes.items c.self.inside.queues.items c.loop-section.section names in_queues in
    let named = image_at pass_name queue_name _ _ _ _ _ names in_passes in_queues c.index_mut.ensures.value c.index.ensures in
    let e = c.another_one.ensures in
    rw c.in_ok-push.ensures.items (twin_step c.loop-section.pass-inside.passes.items c.loop-section.passes.items c.args.pass.now c.loop-section.section c.index_mut.result.now c.another_one.new.pass c.another_one.result c.loop-section.invariant in_passes
    c.index_mut.ensures.value e.queue.0.0 e.queue.0.2 e.same (e.queue.1.0 ∙ sym named) e.queue.1.1 e.new)

pub returns-clause-new : goal.returns-clause-new
returns-clause-new c =
    let names = ap (λ p. p.queues) c.loop-section.invariant.same ∙ c.requires.pass.queues ∙ sym (ap (λ p. p.queues) c.self.view_is) in
    let own = c.self.inside.queues.ok.0 in
    let k = c.len-section-end.ensures in
    let past = c.loop-section-test.false in
    let long = ap length names in
    let ps = length-map c.loop-section.pass-inside.passes.items pass_name in
    let qs = length-map c.self.inside.queues.items queue_name in
    twin_end c.loop-section.pass-inside.passes.items c.loop-section.passes.items c.args.pass.now c.loop-section.section c.loop-section.invariant (omega (arith, own, k, past, long, ps, qs))

pub invariant_of-pass-in_err-push : goal.invariant_of-pass-in_err-push
invariant_of-pass-in_err-push c =
    let names = ap (λ p. p.queues) c.loop-section.invariant.same ∙ c.requires.pass.queues ∙ sym (ap (λ p. p.queues) c.self.view_is) in
    let in_queues : c.loop-section.section < length c.self.inside.queues.items = (let h = c.loop-section-test.true in let k = c.len-section-end.ensures in omega arith) in
    let in_passes = beside pass_name queue_name c.loop-section.pass-inside.passes.items c.self.inside.queues.items c.loop-section.section names in_queues in
    let named = image_at pass_name queue_name _ _ _ _ _ names in_passes in_queues c.index_mut.ensures.value c.index.ensures in
    let e = c.another_one.ensures in
    (twin_step c.loop-section.pass-inside.passes.items c.loop-section.passes.items c.args.pass.now c.loop-section.section c.index_mut.result.now c.another_one.new.pass c.another_one.result c.loop-section.invariant in_passes
    c.index_mut.ensures.value e.queue.0.0 e.queue.0.2 e.same (e.queue.1.0 ∙ sym named) e.queue.1.1 e.new).rest

pub index_mut-requires : goal.index_mut-requires
index_mut-requires c =
    let names = ap (λ p. p.queues) c.loop-section.invariant.same ∙ c.requires.pass.queues ∙ sym (ap (λ p. p.queues) c.self.view_is) in
    let in_queues : c.loop-section.section < length c.self.inside.queues.items = (let h = c.loop-section-test.true in let k = c.len-section-end.ensures in omega arith) in
    let in_passes = beside pass_name queue_name c.loop-section.pass-inside.passes.items c.self.inside.queues.items c.loop-section.section names in_queues in
    let own = c.loop-section.pass-inside.passes.ok.0 in
    omega (arith, in_passes, own)
