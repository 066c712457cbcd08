use Rattle.std.proofs.Common.{◌≡◌, ◌∙◌, ◌&&◌, true, ap, subst, sym}
use Rattle.std.specs.List.{list_all}
use Rattle.ssb_plan.specs.Inputs.{has_column, input_columns}
use Rattle.ssb_trees.proofs.Taken.{both}
use Rattle.ssb_groups.proofs.gather.gather_cells.Goals as goal

pub gather_pairs-requires-clause-right : goal.gather_pairs-requires-clause-right
gather_pairs-requires-clause-right c =
    let has = has_column c.args.job.now.query c.args.job.now.tables in
    let all = ap (list_all has) (sym c.in-Some.ensures.columns_are) ∙ subst (λ x. list_all has (input_columns x) ≡ true) c.in-Of-Number.is-1 c.requires.there in
    (both (has c.in-Some.pair.right) true (both (has c.in-Some.pair.left) (has c.in-Some.pair.right && true) all).1).0
