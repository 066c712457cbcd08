use Rattle.std.proofs.lemmas.Result.{IfOk-weaker}
use Rattle.ssb_cells.specs.Codes.{texts_of}
use Rattle.ssb_plan.specs.Ranks.{ArePlaces, AreRanks}
use Rattle.ssb_plan.proofs.InOrder.{are-ranks, distinct-texts}
use Rattle.ssb_plan.proofs.ranks.ranks.Goals as goal

pub places-requires : goal.places-requires
places-requires c = rw (c.text_count.ensures, c.deref.ensures.value) c.in_ok-codes.ensures.same

pub returns : goal.returns
returns c =
    let texts = texts_of c.args.column.now.values in
    let made = rw c.deref.ensures.value at c.places.ensures in
    IfOk-weaker c.places.result (λ ps. ArePlaces c.in_ok-codes.codes.items ps.items) (λ ps. AreRanks texts ps.items) (λ ps p. are-ranks texts c.in_ok-codes.codes.items ps.items (distinct-texts c.args.column.now.values) c.in_ok-codes.ensures p) made
