use Rattle.std.proofs.Common.{◌<◌, sym, ap, subst}
use Rattle.ssb_pipeline.specs.Part.{PartState, Ran}
use Rattle.ssb_pipeline.specs.Pass.{known}
use Rattle.ssb_pipeline.specs.Rule.{BringsOwn, Knows}
use Rattle.ssb_pipeline.proofs.Holds.{hold, taken}
use Rattle.ssb_pipeline.proofs.RunFacts.{ran_self}
use Rattle.ssb_refusals.proofs.Own.{same-own}
use Rattle.ssb_refusals.proofs.finishing.counts.Goals as goal

pub put-requires-clause-ran : goal.put-requires-clause-ran
put-requires-clause-ran g c =
    let in_views = subst (λ n. 0 < n) (sym c.requires.pass.count) c.requires.section in
    let is = taken 0 c.take-held.result.section c.args.pass.now c.take-held.new.pass c.take-held.result.part c.take-held.ensures.section in_views c.take-held.ensures.view in
    subst (λ (v : Knows). Ran v.seen c.part-part.result.now) (sym is) (subst (Ran c.take-held.result.part) (sym c.part-part.ensures.value) (ran_self c.take-held.result.part))

pub put-requires-clause-own : goal.put-requires-clause-own
put-requires-clause-own g c =
    let in_views = subst (λ n. 0 < n) (sym c.requires.pass.count) c.requires.section in
    let is = taken 0 c.take-held.result.section c.args.pass.now c.take-held.new.pass c.take-held.result.part c.take-held.ensures.section in_views c.take-held.ensures.view in
    let same = c.part-part.ensures.value in
    subst (λ (v : Knows). BringsOwn v c.part-part.result.now) (sym is)
    (same-own (known c.args.pass.now 0) c.take-held.result.part c.part-part.result.now (ap (λ (x : PartState). x.returned) same) (ap (λ (x : PartState). x.given) same))

pub returns-clause-none : goal.returns-clause-none
returns-clause-none g c =
    let in_views = subst (λ n. 0 < n) (sym c.requires.pass.count) c.requires.section in
    (hold 0 c.take-held.result.section c.args.pass.now c.take-held.new.pass c.put.new.pass c.take-held.result.part c.part-part.result.now c.take-held.ensures.section in_views c.requires.none c.take-held.ensures.view c.put.ensures.view).none
