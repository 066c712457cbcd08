use Rattle.std.proofs.Common.{◌≡◌, ◌∙◌, None, Some, get_or, slice_get, ap, subst, sym}
use Rattle.std.proofs.lemmas.Bool.{ltb-true}
use Rattle.std.proofs.lemmas.Option.{get_or_from_slice_get, slice_get-get_or}
use Rattle.std.specs.Arc.{arc_value}
use Rattle.ssb_plan.specs.JobShape.{JobShape}
use Rattle.ssb_groups.specs.Joining.{HasRanksBy, MayHaveRanks, joinings_of}
use Rattle.ssb_groups.specs.declared.joining.Joining.TheVariants as joinings
use Rattle.ssb_groups.proofs.columns.Columns.ranks.Goals as goal

pub returns-in-Some-Some : goal.returns-in-Some-Some
returns-in-Some-Some c =
    let i = c.self.inside in
    let found = c.in-Some-Some.ensures.lookup in
    let there : get_or (arc_value i.ranks).items c.args.at None ≡ Some c.in-Some-Some.ranks = get_or_from_slice_get (arc_value i.ranks).items c.args.at (Some c.in-Some-Some.ranks) None (subst (λ xs. slice_get xs c.args.at ≡ Some (Some c.in-Some-Some.ranks)) (c.deref-2.ensures.value ∙ ap (λ v. v.items) c.deref.ensures) (slice_get-get_or c.deref-2.result.now c.args.at c.in-Some-Some.field-0.now (ltb-true _ _ (sym found.0)) ∙ ap Some (sym found.1) ∙ ap Some c.in-Some-Some.field-0-is)) in
    let has = subst (MayHaveRanks i.job.value.tables (get_or i.joinings.items c.args.at joinings.Adds)) there (c.self.invariant.ranked c.args.at) in
    let here = subst (λ ws. HasRanksBy i.job.value.tables (get_or ws c.args.at joinings.Adds) c.in-Some-Some.ranks.items) c.self.invariant.joinings has in
    subst (HasRanksBy c.args.self.now.tables (get_or (joinings_of c.args.self.now) c.args.at joinings.Adds)) (sym c.as_slice.ensures.value) (subst (λ (j : JobShape). HasRanksBy j.tables (get_or (joinings_of j) c.args.at joinings.Adds) c.in-Some-Some.ranks.items) c.self.view_is here)
