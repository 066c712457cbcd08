use Rattle.std.proofs.Common.{◌≡◌, ◌∙◌, length, map, slice_get, refl, ap, sym, arith}
use Rattle.std.specs.List.{list_all}
use Rattle.std.proofs.lemmas.List.{length-map}
use Rattle.std.proofs.lemmas.Option.{slice_get_read}
use Rattle.ssb_trees.specs.Lists.{concat}
use Rattle.ssb_trees.proofs.Taken.{in_both}
use Rattle.ssb_plan.specs.Inputs.{has_column, input_columns, input_of}
use Rattle.ssb_groups.proofs.InputFacts.{input-there}
use Rattle.ssb_groups.proofs.gather.aggregate_at.Goals as goal

pub returns-clause-own : goal.returns-clause-own
returns-clause-own c =
    let aggs = c.as_slice-aggregates.result.now in
    let same : aggs ≡ c.args.job.now.query.aggregates = c.as_slice-aggregates.ensures ∙ ap (λ q. q.aggregates) (c.parts.ensures.parts ∙ c.query.ensures.query) in
    let long = ap length same in
    ap (λ xs. slice_get xs c.args.place) (sym same) ∙ slice_get_read aggs (length aggs) c.args.place c.index-aggregates-place.result refl (omega (arith, long, c.requires)) c.index-aggregates-place.is

pub returns-clause-there : goal.returns-clause-there
returns-clause-there c =
    let j = c.args.job.now in
    let plan = c.plan.result.now in
    let is = c.as_slice-inputs.result.now in
    let many = ap length (c.as_slice-inputs.ensures.value ∙ c.plan.ensures.inputs.inputs) ∙ length-map j.query.aggregates (input_of j.query) in
    let at = slice_get_read is (length is) c.args.place c.index-inputs-place.result refl (omega (arith, many, c.requires)) c.index-inputs-place.is in
    let there = (in_both (has_column j.query j.tables) plan.keys.items (concat (map input_columns plan.inputs.items)) c.plan.ensures.inputs.there).1 in
    input-there j is c.args.place c.index-inputs-place.result (ap (λ is. list_all (has_column j.query j.tables) (concat (map input_columns is))) c.as_slice-inputs.ensures.value ∙ there) at
