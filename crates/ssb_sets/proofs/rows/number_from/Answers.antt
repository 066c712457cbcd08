use Rattle.std.proofs.Common.{◌∙◌, ◌++◌, ◌∷◌, ◌+◌, ◌<◌, [], ap, arith, length, sym}
use Rattle.std.proofs.lemmas.List.{take_more_set}
use Rattle.ssb_sets.proofs.NullFacts.{range-more}
use Rattle.ssb_sets.proofs.rows.number_from.Goals as goal

pub loop-i-preserved : goal.loop-i-preserved
loop-i-preserved c =
    let row = c.args.first + c.loop-i.i in
    let lt : c.loop-i.i < length c.loop-i.rows = let all = c.loop-i.auto.rows in let more = c.loop-i-test.true in omega (arith, all, more) in
    take_more_set c.loop-i.rows c.loop-i.i row lt ∙ ap (λ xs. xs ++ row ∷ []) c.loop-i.invariant ∙ sym (range-more c.args.first c.loop-i.i)
