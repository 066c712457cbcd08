use Rattle.std.proofs.Common.{◌∙◌, ap, subst, arith}
use Rattle.ssb_pipeline.specs.Part.{AreOut, Ran}
use Rattle.ssb_pipeline.specs.Rule.{Knows, taker}
use Rattle.ssb_pipeline.proofs.Moves.{takes}
use Rattle.ssb_pipeline.proofs.RunFacts.{ran-follows}
use Rattle.std.proofs.lemmas.Grind.{common_steps}
use Rattle.ssb_pipeline.proofs.line.take_one.Goals as goal

pub pop_as-requires-clause-rule : goal.pop_as-requires-clause-rule
pop_as-requires-clause-rule g c = (takes _ _, λ items views rule at. tt)

pub returns-in-Some-pop_as-clause-view : goal.returns-in-Some-pop_as-clause-view
returns-in-Some-pop_as-clause-view g c = c.in-Some-pop_as.ensures.rule.0 ∙ ap (λ v. taker v c.in-Some-pop_as.part) c.loop.invariant.view

pub returns-in-Some-pop_as-clause-reached : goal.returns-in-Some-pop_as-clause-reached
returns-in-Some-pop_as-clause-reached g c = c.in-Some-pop_as.ensures.rule.2

pub returns-in-Some-pop_as-clause-ran : goal.returns-in-Some-pop_as-clause-ran
returns-in-Some-pop_as-clause-ran g c = subst (λ (v : Knows). Ran v.seen c.in-Some-pop_as.part) c.loop.invariant.view c.in-Some-pop_as.ensures.rule.3.ran

pub returns-in-Some-pop_as-clause-due : goal.returns-in-Some-pop_as-clause-due
returns-in-Some-pop_as-clause-due g c = subst (λ (v : Knows). AreOut c.in-Some-pop_as.part v.due) c.loop.invariant.view c.in-Some-pop_as.ensures.rule.3.due

pub returns-in-Some-pop_as-clause-follows : goal.returns-in-Some-pop_as-clause-follows
returns-in-Some-pop_as-clause-follows g c = ran-follows _ _ (returns-in-Some-pop_as-clause-ran g c)

pub returns-in-Some-pop_as-clause-queue : goal.returns-in-Some-pop_as-clause-queue
returns-in-Some-pop_as-clause-queue g c =
    let now = c.in-Some-pop_as.ensures.queue in
    let before = c.loop.invariant.same in
    (now.0 ∙ before.0, now.1 ∙ before.1, now.2 ∙ before.2)

pub returns-in-Some-pop_as-clause-lawful : goal.returns-in-Some-pop_as-clause-lawful
returns-in-Some-pop_as-clause-lawful g c = c.in-Some-pop_as.ensures.rule.1

pub loop-preserved : goal.loop-preserved
loop-preserved g c = grind (arith, common_steps)
