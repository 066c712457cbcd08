use Rattle.std.proofs.Common.{◌≡◌, ◌∙◌, ap}
use Rattle.ssb_cells.specs.Truth.{is_true}
use Rattle.ssb_conditions.specs.Holds.{among, literal_cell}
use Rattle.ssb_plan.proofs.SetFacts.{known-among, tells-constant}
use Rattle.ssb_plan.proofs.leaves.membership.Goals as goal

pub returns-in-Literal : goal.returns-in-Literal
returns-in-Literal c =
    let said : c.among-in-Literal.result ≡ among (literal_cell c.in-Literal.literal) c.args.literals.now = c.among-in-Literal.ensures ∙ ap (λ z. among z c.args.literals.now) c.literal_value.ensures in
    tells-constant c.args.x.name c.args.x.values.now (λ v. among (v c.args.operand.now) c.args.literals.now) (among (literal_cell c.in-Literal.literal) c.args.literals.now) c.constant.result
    (λ v value. ap (λ z. among z c.args.literals.now) (ap v c.in-Literal.is ∙ value c.in-Literal.literal)) (known-among c.in-Literal.literal c.args.literals.now) (c.constant.ensures.null ∙ said) (λ n. c.constant.ensures.values n ∙ ap is_true said)
