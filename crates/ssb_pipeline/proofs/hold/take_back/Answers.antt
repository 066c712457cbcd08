use Rattle.std.proofs.Common.{◌∙◌, Err, ap, subst, sym}
use Rattle.std.specs.List.{All}
use Rattle.ssb_pipeline.specs.Batch.{IsBatchOf}
use Rattle.ssb_pipeline.specs.Part.{IsOutIn, IsUnrefused}
use Rattle.ssb_pipeline.proofs.Batches.{taken-settles}
use Rattle.ssb_pipeline.proofs.hold.take_back.Goals as goal

pub returns-in-Ok-take_in-clause-settles : goal.returns-in-Ok-take_in-clause-settles
returns-in-Ok-take_in-clause-settles c = λ ts of. taken-settles c.in-Ok.partial ts c.args.part.now c.take_in.new.self (subst (IsBatchOf ts) c.in-Ok.is of) c.in-Ok-take_in.ensures.gives

-- its tickets are out, so that it is refused for want of memory alone
pub unreachable-requires : goal.unreachable-requires
unreachable-requires c =
    let out = subst (All (IsOutIn c.args.part.now)) (sym (subst (IsBatchOf c.requires.made.tickets) c.in-Ok.is c.requires.made.of)) c.requires.made.each in
    subst IsUnrefused (c.in-Err-NotHandedOut.is ∙ ap Err c.in-Err-NotHandedOut.field-0-is) (c.take_in.ensures.due out)

pub unreachable-requires-in-Err-Doubled : goal.unreachable-requires-in-Err-Doubled
unreachable-requires-in-Err-Doubled c =
    let out = subst (All (IsOutIn c.args.part.now)) (sym (subst (IsBatchOf c.requires.made.tickets) c.in-Ok.is c.requires.made.of)) c.requires.made.each in
    subst IsUnrefused (c.in-Err-Doubled.is ∙ ap Err c.in-Err-Doubled.field-0-is) (c.take_in.ensures.due out)
