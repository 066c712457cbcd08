use Rattle.std.proofs.Common.{◌<◌, sym, ◌∙◌, ap, subst, refl, arith}
use Rattle.std.proofs.lemmas.List.Elements.{All-set}
use Rattle.ssb_pipeline.specs.Rule.{Knows, taker}
use Rattle.ssb_pipeline.specs.Part.{AreOut, Follows, Ran}
use Rattle.ssb_pipeline.specs.Pass.{queue_name, pass_name, IsAtRest}
use Rattle.ssb_pipeline.proofs.Passes.{each_at, image_at, in_image, known_in, later-part, now_knows, still_pass}
use Rattle.ssb_pipeline.proofs.parts.Parts.take_from.Goals as goal

pub take_one-part-requires : goal.take_one-part-requires
take_one-part-requires g c =
    let same = ap (λ p. p.queues) c.pass.view_is ∙ (c.requires.pass.queues ∙ sym (ap (λ p. p.queues) c.self.view_is)) in
    let in_queues = in_image queue_name c.self.inside.queues.items _ c.args.section (ap (λ p. p.queues) c.self.view_is) c.requires.section in
    let in_passes = in_image pass_name c.pass.inside.passes.items _ c.args.section (ap (λ p. p.queues) c.pass.view_is ∙ c.requires.pass.queues) c.requires.section in
    (image_at pass_name queue_name _ _ _ _ _ same in_passes in_queues c.index_mut.ensures.value c.index.ensures, each_at IsAtRest _ _ _ c.pass.invariant in_passes c.index_mut.ensures.value)

pub returns-clause-view : goal.returns-clause-view
returns-clause-view g c =
    let in_passes = in_image pass_name c.pass.inside.passes.items _ c.args.section (ap (λ p. p.queues) c.pass.view_is ∙ c.requires.pass.queues) c.requires.section in
    rw (← c.pass.view_is) (now_knows c.pass.inside.passes.items c.args.section c.index_mut.result.now _ (λ v. taker v c.take_one-part.result) in_passes c.index_mut.ensures.value c.take_one-part.ensures.queue.0 c.take_one-part.ensures.view)

pub returns-clause-pass : goal.returns-clause-pass
returns-clause-pass g c =
    let in_passes = in_image pass_name c.pass.inside.passes.items _ c.args.section (ap (λ p. p.queues) c.pass.view_is ∙ c.requires.pass.queues) c.requires.section in
    let knew = known_in c.pass.inside.passes.items c.args.pass.now c.args.section c.index_mut.result.now c.pass.view_is in_passes c.index_mut.ensures.value in
    rw (returns-clause-view g c) (still_pass c.args.self.now c.args.pass.now c.args.section _ c.requires.pass c.requires.section refl (subst (λ (v : Knows). Follows c.take_one-part.result v.seen) (sym knew) c.take_one-part.ensures.follows))

pub invariant_of-pass : goal.invariant_of-pass
invariant_of-pass g c =
    let in_passes = in_image pass_name c.pass.inside.passes.items _ c.args.section (ap (λ p. p.queues) c.pass.view_is ∙ c.requires.pass.queues) c.requires.section in
    All-set IsAtRest c.pass.inside.passes.items c.args.section c.take_one-part.new.pass (c.take_one-part.ensures.queue.2 ∙ each_at IsAtRest _ _ _ c.pass.invariant in_passes c.index_mut.ensures.value) c.pass.invariant

pub index-requires : goal.index-requires
index-requires g c = let within = in_image queue_name c.self.inside.queues.items _ c.args.section (ap (λ p. p.queues) c.self.view_is) c.requires.section in omega (arith, within)

pub index_mut-requires : goal.index_mut-requires
index_mut-requires g c = let within = in_image pass_name c.pass.inside.passes.items _ c.args.section (ap (λ p. p.queues) c.pass.view_is ∙ c.requires.pass.queues) c.requires.section in omega (arith, within)

pub returns-clause-follows : goal.returns-clause-follows
returns-clause-follows g c =
    let in_passes = in_image pass_name c.pass.inside.passes.items _ c.args.section (ap (λ p. p.queues) c.pass.view_is ∙ c.requires.pass.queues) c.requires.section in
    let knew = known_in c.pass.inside.passes.items c.args.pass.now c.args.section c.index_mut.result.now c.pass.view_is in_passes c.index_mut.ensures.value in
    subst (λ (v : Knows). Follows c.take_one-part.result v.seen) (sym knew) c.take_one-part.ensures.follows

pub returns-clause-ran : goal.returns-clause-ran
returns-clause-ran g c =
    let in_passes = in_image pass_name c.pass.inside.passes.items _ c.args.section (ap (λ p. p.queues) c.pass.view_is ∙ c.requires.pass.queues) c.requires.section in
    let knew = known_in c.pass.inside.passes.items c.args.pass.now c.args.section c.index_mut.result.now c.pass.view_is in_passes c.index_mut.ensures.value in
    subst (λ (v : Knows). Ran v.seen c.take_one-part.result) (sym knew) c.take_one-part.ensures.ran

pub returns-clause-part : goal.returns-clause-part
returns-clause-part g c =
    let in_views = subst (λ n. c.args.section < n) (sym c.requires.pass.count) c.requires.section in
    later-part c.args.self.now c.args.section _ _ (c.requires.pass.each c.args.section in_views).part (returns-clause-follows g c)

pub returns-clause-due : goal.returns-clause-due
returns-clause-due g c =
    let in_passes = in_image pass_name c.pass.inside.passes.items _ c.args.section (ap (λ p. p.queues) c.pass.view_is ∙ c.requires.pass.queues) c.requires.section in
    let knew = known_in c.pass.inside.passes.items c.args.pass.now c.args.section c.index_mut.result.now c.pass.view_is in_passes c.index_mut.ensures.value in
    subst (λ (v : Knows). AreOut c.take_one-part.result v.due) (sym knew) c.take_one-part.ensures.due
