use Rattle.std.proofs.Common.{◌≡◌, ◌∙◌, map, sym, ap, subst}
use Rattle.std.specs.List.{list_all}
use Rattle.std.proofs.lemmas.List.{take_all}
use Rattle.ssb_plan.specs.Inputs.{has_column, input_columns}
use Rattle.ssb_trees.proofs.Taken.{in_both}
use Rattle.ssb_trees.specs.Lists.{concat}
use Rattle.ssb_groups.specs.Joining.{AreJoinings, joining_of}
use Rattle.ssb_groups.proofs.InputFacts.{joinings-there}
use Rattle.ssb_groups.proofs.columns.joinings.Goals as goal

pub returns-clause-known : goal.returns-clause-known
returns-clause-known c =
    let j = c.args.job.now in
    let plan = c.plan.result.now in
    let aggregates : c.as_slice-aggregates.result.now ≡ j.query.aggregates = c.as_slice-aggregates.ensures ∙ ap (λ q. q.aggregates) (c.parts.ensures.parts ∙ c.query.ensures.query) in
    let same : c.loop-at.joinings.items ≡ map (joining_of j) j.query.aggregates =
    c.loop-at.invariant ∙ ap (map (joining_of j)) (take_all c.loop-at.at c.as_slice-aggregates.result.now c.loop-at-test.false ∙ aggregates) in
    let there = (in_both (has_column j.query j.tables) plan.keys.items (concat (map input_columns plan.inputs.items)) c.plan.ensures.inputs.there).1 in
    subst (AreJoinings j.tables) (sym same) (joinings-there j j.query.aggregates (ap (λ is. list_all (has_column j.query j.tables) (concat (map input_columns is))) (sym c.plan.ensures.inputs.inputs) ∙ there))
