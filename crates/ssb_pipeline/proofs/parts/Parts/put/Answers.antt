use Rattle.std.proofs.Common.{◌≡◌, ◌<◌, true, sym, ◌∙◌, ap, subst, refl, arith}
use Rattle.std.proofs.lemmas.List.Elements.{All-set}
use Rattle.ssb_pipeline.specs.Rule.{BringsOwn, Knows, putter}
use Rattle.ssb_pipeline.specs.Part.{Ran}
use Rattle.ssb_pipeline.specs.Pass.{queue_name, pass_name, IsAtRest, IsSingle}
use Rattle.ssb_pipeline.proofs.Passes.{image_at, each_at, in_image, known_in, now_knows, still_pass}
use Rattle.ssb_pipeline.proofs.RunFacts.{ran-follows}
use Rattle.ssb_pipeline.proofs.parts.Parts.put.Goals as goal

pub put_one-requires-clause-queue : goal.put_one-requires-clause-queue
put_one-requires-clause-queue g c =
    let same = ap (λ p. p.queues) c.pass.view_is ∙ (c.requires.pass.queues ∙ sym (ap (λ p. p.queues) c.self.view_is)) in
    let in_queues = in_image queue_name c.self.inside.queues.items _ c.args.held.section (ap (λ p. p.queues) c.self.view_is) c.requires.section in
    let in_passes = in_image pass_name c.pass.inside.passes.items _ c.args.held.section (ap (λ p. p.queues) c.pass.view_is ∙ c.requires.pass.queues) c.requires.section in (
      (image_at pass_name queue_name _ _ _ _ _ same in_passes in_queues c.index_mut.ensures.value c.index.ensures, each_at IsAtRest _ _ _ c.pass.invariant in_passes c.index_mut.ensures.value),
      each_at IsSingle _ _ _ c.self.invariant.0 in_queues c.index.ensures,
    )

pub returns-clause-view : goal.returns-clause-view
returns-clause-view g c =
    let in_passes = in_image pass_name c.pass.inside.passes.items _ c.args.held.section (ap (λ p. p.queues) c.pass.view_is ∙ c.requires.pass.queues) c.requires.section in
    rw (← c.pass.view_is) (now_knows c.pass.inside.passes.items c.args.held.section c.index_mut.result.now _ (λ v. putter v c.args.held.part) in_passes c.index_mut.ensures.value c.put_one.ensures.queue.0 c.put_one.ensures.view)

pub returns-clause-pass : goal.returns-clause-pass
returns-clause-pass g c = rw (returns-clause-view g c) (still_pass c.args.self.now c.args.pass.now c.args.held.section _ c.requires.pass c.requires.section refl (ran-follows _ _ c.requires.ran))

pub invariant_of-pass : goal.invariant_of-pass
invariant_of-pass g c =
    let in_passes = in_image pass_name c.pass.inside.passes.items _ c.args.held.section (ap (λ p. p.queues) c.pass.view_is ∙ c.requires.pass.queues) c.requires.section in
    All-set IsAtRest c.pass.inside.passes.items c.args.held.section c.put_one.new.pass (c.put_one.ensures.queue.2 ∙ each_at IsAtRest _ _ _ c.pass.invariant in_passes c.index_mut.ensures.value) c.pass.invariant

pub index-requires : goal.index-requires
index-requires g c = let within = in_image queue_name c.self.inside.queues.items _ c.args.held.section (ap (λ p. p.queues) c.self.view_is) c.requires.section in omega (arith, within)

pub index_mut-requires : goal.index_mut-requires
index_mut-requires g c = let within = in_image pass_name c.pass.inside.passes.items _ c.args.held.section (ap (λ p. p.queues) c.pass.view_is ∙ c.requires.pass.queues) c.requires.section in omega (arith, within)

pub put_one-requires-clause-holds : goal.put_one-requires-clause-holds
put_one-requires-clause-holds g c =
    let in_passes = in_image pass_name c.pass.inside.passes.items _ c.args.held.section (ap (λ p. p.queues) c.pass.view_is ∙ c.requires.pass.queues) c.requires.section in
    subst (λ (v : Knows). v.holds ≡ true) (known_in c.pass.inside.passes.items c.args.pass.now c.args.held.section c.index_mut.result.now c.pass.view_is in_passes c.index_mut.ensures.value) c.requires.holds

pub put_one-requires-clause-opened : goal.put_one-requires-clause-opened
put_one-requires-clause-opened g c =
    let in_passes = in_image pass_name c.pass.inside.passes.items _ c.args.held.section (ap (λ p. p.queues) c.pass.view_is ∙ c.requires.pass.queues) c.requires.section in
    let in_views = subst (λ n. c.args.held.section < n) (sym c.requires.pass.count) c.requires.section in
    subst (λ (v : Knows). v.opened ≡ true) (known_in c.pass.inside.passes.items c.args.pass.now c.args.held.section c.index_mut.result.now c.pass.view_is in_passes c.index_mut.ensures.value) (c.requires.pass.each c.args.held.section in_views).opened

pub put_one-requires-clause-ran : goal.put_one-requires-clause-ran
put_one-requires-clause-ran g c =
    let in_passes = in_image pass_name c.pass.inside.passes.items _ c.args.held.section (ap (λ p. p.queues) c.pass.view_is ∙ c.requires.pass.queues) c.requires.section in
    subst (λ (v : Knows). Ran v.seen c.args.held.part) (known_in c.pass.inside.passes.items c.args.pass.now c.args.held.section c.index_mut.result.now c.pass.view_is in_passes c.index_mut.ensures.value) c.requires.ran

pub put_one-requires-clause-own : goal.put_one-requires-clause-own
put_one-requires-clause-own g c =
    let in_passes = in_image pass_name c.pass.inside.passes.items _ c.args.held.section (ap (λ p. p.queues) c.pass.view_is ∙ c.requires.pass.queues) c.requires.section in
    subst (λ (v : Knows). BringsOwn v c.args.held.part) (known_in c.pass.inside.passes.items c.args.pass.now c.args.held.section c.index_mut.result.now c.pass.view_is in_passes c.index_mut.ensures.value) c.requires.own
