use Rattle.std.proofs.Common.{ap, length, arith}
use Rattle.std.proofs.lemmas.Grind.{common_steps}
use Rattle.ssb_pipeline.proofs.Batches.{due-got}
use Rattle.ssb_pipeline.proofs.Rounds.{more-of, ready_more, round-of}
use Rattle.ssb_pipeline.proofs.worker.turn.Goals as goal

pub bring_back-requires-clause-made : goal.bring_back-requires-clause-made
bring_back-requires-clause-made g c =
    let ts = c.get_tickets-tickets.result.items in
    record { tickets = ts; of = c.partial_of-made.ensures.batch; each = due-got c.args.taking.now.batch ts _ _ c.get_tickets-tickets.ensures.gets }

pub returns-clause-ready : goal.returns-clause-ready
returns-clause-ready g c = ready_more _ _ _ _ c.requires.ready _ c.get_tickets-tickets.ensures.ready c.bring_back.ensures.ready

pub returns-clause-round : goal.returns-clause-round
returns-clause-round g c = round-of c.args.taking.now.batch c.get_tickets-tickets.result.items _ _ _ c.get_tickets-tickets.ensures.gets (c.bring_back.ensures.brings c.get_tickets-tickets.result.items c.partial_of-made.ensures.batch)

pub returns-clause-more : goal.returns-clause-more
returns-clause-more g c =
    let empty = c.is_empty.ensures in
    let test = c.if-is_empty.false in
    λ yes. more-of c.args.taking.now.batch c.get_tickets-tickets.result.items _ _ _ (λ none. let ok = c.get_tickets-tickets.result.ok in let is = ap length none in grind (arith, common_steps)) c.get_tickets-tickets.ensures.gets (c.bring_back.ensures.brings c.get_tickets-tickets.result.items c.partial_of-made.ensures.batch)
