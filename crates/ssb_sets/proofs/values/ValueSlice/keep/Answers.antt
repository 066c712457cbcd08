use Rattle.std.proofs.Common.{◌∙◌}
use Rattle.ssb_packed.specs.Lent.{numbers_in}
use Rattle.ssb_sets.proofs.RowFacts.{codes-same, codes-within}
use Rattle.ssb_sets.proofs.values.ValueSlice.keep.Goals as goal

pub returns-in-Codes-clause-rows : goal.returns-in-Codes-clause-rows
returns-in-Codes-clause-rows g c =
    let there = rw c.in-Codes.is at c.requires in
    rw c.in-Codes.is (c.keep_numbers-in-Codes.ensures.rows ∙ codes-same (g.A.Asks.says c.args.asked) (numbers_in c.in-Codes.codes.numbers) c.args.rows.now.items there)

pub returns-in-Codes-clause-within : goal.returns-in-Codes-clause-within
returns-in-Codes-clause-within g c =
    let there = rw c.in-Codes.is at c.requires in
    rw c.in-Codes.is (codes-within (numbers_in c.in-Codes.codes.numbers) c.args.rows.now.items there)
