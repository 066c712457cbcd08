use Rattle.std.proofs.Common.{ap, arith, map, subst}
use Rattle.ssb_lanes.proofs.JoiningFacts.{AreStacked, no-part, stacked-all, stacked-fits, stacked-next}
use Rattle.ssb_lanes.proofs.joining.stack_all.Goals as goal

pub stack-requires : goal.stack-requires
stack-requires c =
    let lists = c.requires.0 in
    let next = ap (map (λ v. v.items)) c.in-Some.ensures.steps.0 in
    stacked-fits c.args.rules.now lists c.loop-columns.stacks.items c.in-Some.columns.items _ _ c.requires.1
    (subst (AreStacked c.args.rules.now lists c.loop-columns.stacks.items) next (c.loop-columns.invariant lists c.requires.1))

pub loop-columns-preserved : goal.loop-columns-preserved
loop-columns-preserved c lists are =
    let next = ap (map (λ v. v.items)) c.in-Some.ensures.steps.0 in
    stacked-next c.args.rules.now lists c.loop-columns.stacks.items c.stack.new.stacks.items c.in-Some.columns.items _
    (subst (AreStacked c.args.rules.now lists c.loop-columns.stacks.items) next (c.loop-columns.invariant lists are)) c.in_ok-stack.ensures

pub returns : goal.returns
returns c lists are =
    let rest = c.loop-columns.columns-iterator.rest in
    let none = c.in-None.ensures.steps.0 in
    let counted = rest.ok.0 in
    stacked-all c.args.rules.now lists c.loop-columns.stacks.items _ (c.loop-columns.invariant lists are) (no-part _ rest.items (omega (arith, none, counted)))
