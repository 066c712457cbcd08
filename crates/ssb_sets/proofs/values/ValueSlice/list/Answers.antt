use Rattle.std.proofs.Common.{◌∙◌, ◌-◌, arith}
use Rattle.ssb_packed.specs.Lent.{numbers_in}
use Rattle.ssb_sets.proofs.CheckFacts.{each-ok}
use Rattle.ssb_sets.proofs.RowFacts.{codes-listed}
use Rattle.ssb_sets.proofs.values.ValueSlice.list.Goals as goal

pub returns-in-Codes : goal.returns-in-Codes
returns-in-Codes g c =
    let order = c.requires.order in
    let there = rw c.in-Codes.is at c.requires.there in
    rw c.in-Codes.is (each-ok c.list_numbers-in-Codes.result (λ is. is ∙ codes-listed (g.A.Asks.says c.args.asked) (numbers_in c.in-Codes.codes.numbers) c.args.from (c.args.end - c.args.from) (omega (arith, order, there))) c.list_numbers-in-Codes.ensures)
