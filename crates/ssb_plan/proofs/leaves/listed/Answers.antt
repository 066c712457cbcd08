use Rattle.std.proofs.Common.{◌≡◌, ◌∙◌}
use Rattle.ssb_plan.proofs.Encodings.{are-among, each-ok, encodings, listed-end}
use Rattle.ssb_plan.proofs.leaves.listed.Goals as goal

pub returns : goal.returns
returns c =
    let all : c.deref.result.now ≡ encodings c.args.column.now c.args.literals.now = c.deref.ensures.value ∙ listed-end c.args.column.now c.args.literals.now c.loop-literal.numbers.items c.loop-literal.literal-index c.loop-literal-test.false c.loop-literal.invariant in
    each-ok c.listed.result (are-among c.args.column.now c.args.literals.now) (rw all at c.listed.ensures)
