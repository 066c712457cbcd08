use Rattle.std.proofs.Common.{sym, subst}
use Rattle.ssb_pipeline.specs.Replay.{GivesTo, Slots}
use Rattle.ssb_pipeline.specs.Replay.GivesTo.{empty, given}
use Rattle.ssb_pipeline.specs.declared.calls.Reply.TheVariants as reply
use Rattle.ssb_pipeline.proofs.calls.give_up.Goals as goal

pub returns-in-Some-clause-gives : goal.returns-in-Some-clause-gives
returns-in-Some-clause-gives c =
    subst (λ (l : Slots). GivesTo c.args.slot reply.Done c.args.part.now c.args.slots.now.items c.give_up.new.self l) (sym c.in-Some.ensures.slots)
    (given c.in-Some.ensures.ticket c.give_up.ensures.gives_up)

pub returns-in-None-clause-gives : goal.returns-in-None-clause-gives
returns-in-None-clause-gives c =
    subst (λ (l : Slots). GivesTo c.args.slot reply.NoTicket c.args.part.now c.args.slots.now.items c.args.part.now l) (sym c.in-None.ensures.slots)
    (empty c.in-None.ensures.ticket)
