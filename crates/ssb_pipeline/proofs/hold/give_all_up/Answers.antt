use Rattle.std.proofs.Common.{rules, ◌≡◌, ◌++◌, ◌∷◌, []}
use Rattle.ssb_pipeline.proofs.Batches.{given-all, giving-none, giving-one}
use Rattle.ssb_pipeline.proofs.hold.give_all_up.Goals as goal

pub loop-ticket-init : goal.loop-ticket-init
loop-ticket-init c = giving-none c.args.tickets.items c.args.part.now

pub loop-ticket-preserved : goal.loop-ticket-preserved
loop-ticket-preserved c =
    let l = c.loop-ticket in
    let last : l.tickets.items ≡ c.pop.new.self.items ++ c.in-Some.ticket ∷ [] = search rules in
    giving-one c.args.tickets.items l.tickets.items c.pop.new.self.items c.in-Some.ticket c.args.part.now l.part c.give_up.new.self l.invariant last c.requires c.give_up.ensures.gives_up

pub returns : goal.returns
returns c =
    let l = c.loop-ticket in
    let none : l.tickets.items ≡ [] = search rules in
    given-all c.args.tickets.items l.tickets.items c.args.part.now l.part none l.invariant
