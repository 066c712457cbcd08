use Rattle.std.proofs.Common.{◌∙◌, ap, arith, get_or, length, subst}
use Rattle.std.proofs.lemmas.List.{length-map}
use Rattle.ssb_lanes.specs.Joining.{Joins}
use Rattle.ssb_lanes.specs.declared.joining.Joining.TheVariants as now
use Rattle.ssb_lanes.proofs.JoiningFacts.{joined-each}
use Rattle.ssb_lanes.proofs.joining.join_all.Goals as goal

pub returns : goal.returns
returns g c stacks before =
    let after = c.for_each_mut.new.s in
    let long = ap length before ∙ length-map stacks now.Parts in
    let same = c.for_each_mut.auto.s in
    joined-each stacks after (omega (arith, long, same)) (λ i d lt.
    let k = (c.for_each_mut.ensures i d (omega (arith, lt, long))).1 in
    subst (λ t. Joins (get_or t i d) (get_or after i d)) before (subst (λ t. Joins t (get_or after i d)) k.argument_is (subst (Joins k.argument.now) k.left k.call)))
