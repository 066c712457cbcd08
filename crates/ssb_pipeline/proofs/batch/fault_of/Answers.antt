use Rattle.std.proofs.Common.{◌∙◌, sym, true, false}
use Rattle.ssb_pipeline.proofs.BatchFacts.{fault-is}
use Rattle.ssb_pipeline.proofs.batch.fault_of.Goals as goal

pub returns-then-has_twice : goal.returns-then-has_twice
returns-then-has_twice c =
    sym (fault-is c.args.tickets.now c.first-item.result true c.in-len1-up.len_at_least c.first-item.is (sym c.are_alike.ensures ∙ c.if-not-are_alike.false) (sym c.has_twice.ensures ∙ c.if-has_twice.true))

pub returns : goal.returns
returns c =
    sym (fault-is c.args.tickets.now c.first-item.result false c.in-len1-up.len_at_least c.first-item.is (sym c.are_alike.ensures ∙ c.if-not-are_alike.false) (sym c.has_twice.ensures ∙ c.if-has_twice.false))
