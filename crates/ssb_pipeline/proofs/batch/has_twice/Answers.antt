use Rattle.std.proofs.Common.{◌∙◌, sym}
use Rattle.ssb_pipeline.proofs.BatchFacts.{twice-behind, twice-here}
use Rattle.ssb_pipeline.proofs.batch.has_twice.Goals as goal

pub returns-then-has_morsel : goal.returns-then-has_morsel
returns-then-has_morsel c =
    sym (c.loop-rest.invariant ∙ twice-here c.loop-rest.rest.now c.first-item.result c.morsel.result c.in-len1-up.len_at_least c.first-item.is c.morsel.ensures (sym c.has_morsel.ensures ∙ c.if-has_morsel.true))

pub loop-rest-preserved : goal.loop-rest-preserved
loop-rest-preserved c =
    c.loop-rest.invariant ∙ twice-behind c.loop-rest.rest.now c.first-item.result c.morsel.result c.in-len1-up.len_at_least c.first-item.is c.morsel.ensures (sym c.has_morsel.ensures ∙ c.if-has_morsel.false)
