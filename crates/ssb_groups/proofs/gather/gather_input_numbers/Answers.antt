use Rattle.std.proofs.Common.{◌≡◌, ◌∙◌, ◌&&◌, true, ap, subst, sym}
use Rattle.std.specs.List.{list_all}
use Rattle.ssb_plan.specs.Inputs.{has_column, input_columns}
use Rattle.ssb_trees.proofs.Taken.{both}
use Rattle.ssb_groups.proofs.ColumnFacts.{if-ok}
use Rattle.ssb_groups.proofs.gather.gather_input_numbers.Goals as goal

pub gather_pair_numbers-requires-clause-right : goal.gather_pair_numbers-requires-clause-right
gather_pair_numbers-requires-clause-right c =
    let has = has_column c.args.job.now.query c.args.job.now.tables in
    let all = ap (list_all has) (sym c.in-Some.ensures.columns_are) ∙ subst (λ x. list_all has (input_columns x) ≡ true) c.in-Number.is c.requires.there in
    (both (has c.in-Some.pair.right) true (both (has c.in-Some.pair.left) (has c.in-Some.pair.right && true) all).1).0

pub returns-in-Some : goal.returns-in-Some
returns-in-Some c = if-ok c.gather_pair_numbers.result _ _ _ (λ plain taken same. λ f e yes itself is. taken f e c.in-Number.expr yes itself (is ∙ c.in-Number.is) c.in-Some.ensures) c.gather_pair_numbers.ensures c.gather_pair_numbers.ensures
