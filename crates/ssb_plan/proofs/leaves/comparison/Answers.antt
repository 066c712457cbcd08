use Rattle.std.proofs.Common.{◌∙◌, ap}
use Rattle.ssb_cells.specs.Truth.{is_true}
use Rattle.ssb_plan.proofs.SetFacts.{tells-first, tells-itself, tells-second}
use Rattle.ssb_plan.proofs.leaves.comparison.Goals as goal

pub returns-in_ok-against-in-Column-Literal : goal.returns-in_ok-against-in-Column-Literal
returns-in_ok-against-in-Column-Literal c =
    rw c.of_values.ensures (tells-first c.args.x.name c.args.x.values.now c.args.op c.args.a.now c.args.b.now c.in-Column-Literal.field-0-0 c.in-Column-Literal.literal c.in_ok-against-in-Column-Literal.field-0 c.requires.first c.in-Column-Literal.is-0 c.in-Column-Literal.is-1 c.in_ok-against-in-Column-Literal.ensures)

pub returns-in-Column-Column : goal.returns-in-Column-Column
returns-in-Column-Column c =
    rw c.of_values-in-Column-Column.ensures (tells-itself c.args.x.name c.args.x.values.now c.args.op c.args.a.now c.args.b.now c.in-Column-Column.field-0-0 c.in-Column-Column.field-0-1 c.constant.result c.requires.first c.requires.second c.in-Column-Column.is-0 c.in-Column-Column.is-1 (λ n. c.constant.ensures.same n ∙ c.is_true-equal.ensures ∙ ap is_true c.compare.ensures))

pub returns-in_ok-against-in-Literal-Column : goal.returns-in_ok-against-in-Literal-Column
returns-in_ok-against-in-Literal-Column c =
    let asked = rw c.turned.ensures at c.in_ok-against-in-Literal-Column.ensures in
    rw c.of_values-in-Literal-Column.ensures (tells-second c.args.x.name c.args.x.values.now c.args.op c.args.a.now c.args.b.now c.in-Literal-Column.field-0-1 c.in-Literal-Column.literal c.in_ok-against-in-Literal-Column.field-0 c.requires.second c.in-Literal-Column.is-1 c.in-Literal-Column.is-0 asked)
