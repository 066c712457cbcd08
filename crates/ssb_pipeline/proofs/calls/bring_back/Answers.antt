use Rattle.std.proofs.Common.{◌≡◌, ◌∙◌, None, Some, length, sym, ap, subst, arith}
use Rattle.std.specs.Prelude.{slice_set}
use Rattle.std.proofs.lemmas.List.{length-set}
use Rattle.ssb_pipeline.specs.Part.{PartState}
use Rattle.ssb_pipeline.specs.Replay.{AreOf, BringsTo, Slots}
use Rattle.ssb_pipeline.specs.Replay.BringsTo.{doubled, empty, strange, taken}
use Rattle.ssb_pipeline.specs.State.{PartialState}
use Rattle.ssb_pipeline.specs.declared.calls.Reply.TheVariants as reply
use Rattle.ssb_pipeline.proofs.Bringing.{handed-alone, one-alone, return-alone, returned-alone, same-ticket, strange-alone}
use Rattle.ssb_pipeline.proofs.Replays.{back-in, lies-of, lies-within}
use Rattle.ssb_pipeline.proofs.calls.bring_back.Goals as goal

pub returns-in_default-clause-brings : goal.returns-in_default-clause-brings
returns-in_default-clause-brings c =
    subst (λ (l : Slots). BringsTo c.args.slot reply.NoTicket c.args.part.now c.args.slots.now.items c.args.part.now l) (sym c.in_default.ensures.slots) (empty c.in_default.ensures.ticket)

pub of-requires : goal.of-requires
of-requires c = record { one_job = lies-of c.args.job.now c.args.slots.now.items c.args.slot c.in-Some.ticket c.requires.of c.in-Some.ensures.ticket }

pub give_back-requires : goal.give_back-requires
give_back-requires c =
    let of = lies-of c.args.job.now c.args.slots.now.items c.args.slot c.in-Some.ticket c.requires.of c.in-Some.ensures.ticket in
    record { one_job = one-alone c.in-Ok.partial c.in-Some.ticket c.args.part.now.job c.in-Ok.ensures.ticket (of ∙ sym c.requires.part) }

pub returns-in-Ok-give_back-clause-brings : goal.returns-in-Ok-give_back-clause-brings
returns-in-Ok-give_back-clause-brings c =
    let p = c.args.part.now in
    let q = c.give_back.new.self in
    let t = c.in-Some.ticket in
    let g = c.in-Ok-give_back.ensures.gives in
    subst (λ (l : Slots). BringsTo c.args.slot reply.Done p c.args.slots.now.items q l) (sym c.in-Some.ensures.slots)
    (taken c.in-Some.ensures.ticket (handed-alone c.in-Ok.partial t p c.in-Ok.ensures.ticket g.handed) (return-alone c.in-Ok.partial t p q c.in-Ok.ensures.ticket g))

pub index_mut-requires : goal.index_mut-requires
index_mut-requires c =
    let within = lies-within c.args.slots.now.items c.args.slot c.in-Some.ticket c.in-Some.ensures.ticket in
    let same = ap length c.in-Some.ensures.slots ∙ length-set c.args.slots.now.items c.args.slot None in
    let own = c.take_ticket.new.slots.ok.0 in
    omega (arith, within, same, own)

pub index_mut-requires-in-Err-Doubled : goal.index_mut-requires-in-Err-Doubled
index_mut-requires-in-Err-Doubled c =
    let within = lies-within c.args.slots.now.items c.args.slot c.in-Some.ticket c.in-Some.ensures.ticket in
    let same = ap length c.in-Some.ensures.slots ∙ length-set c.args.slots.now.items c.args.slot None in
    let own = c.take_ticket.new.slots.ok.0 in
    omega (arith, within, same, own)

pub returns-in-Err-NotHandedOut-clause-brings : goal.returns-in-Err-NotHandedOut-clause-brings
returns-in-Err-NotHandedOut-clause-brings c =
    let p = c.args.part.now in
    let t = c.in-Some.ticket in
    let slots = c.args.slots.now.items in
    let g = rw c.in-Err-NotHandedOut.field-0-is at c.in-Err-NotHandedOut.ensures.gives in
    let same : c.into_ticket.result ≡ t = same-ticket _ _ _ c.into_ticket.ensures (ap (λ (x : PartialState). x.tickets) g.partial ∙ c.in-Ok.ensures.ticket) in
    let as_before : slice_set c.take_ticket.new.slots.items c.args.slot (Some c.into_ticket.result) ≡ slots = (λ k. slice_set (c.in-Some.ensures.slots k) c.args.slot (Some (same k))) ∙ back-in slots c.args.slot t c.in-Some.ensures.ticket in
    subst (λ (s : PartState × Slots). BringsTo c.args.slot reply.NotHandedOut p slots s.0 s.1) (λ k. (sym g.same k, sym as_before k))
    (strange c.in-Some.ensures.ticket (strange-alone c.in-Ok.partial t p c.in-Ok.ensures.ticket g.reason))

pub returns-in-Err-NotHandedOut-clause-of : goal.returns-in-Err-NotHandedOut-clause-of
returns-in-Err-NotHandedOut-clause-of c =
    let p = c.args.part.now in
    let t = c.in-Some.ticket in
    let slots = c.args.slots.now.items in
    let g = rw c.in-Err-NotHandedOut.field-0-is at c.in-Err-NotHandedOut.ensures.gives in
    let same : c.into_ticket.result ≡ t = same-ticket _ _ _ c.into_ticket.ensures (ap (λ (x : PartialState). x.tickets) g.partial ∙ c.in-Ok.ensures.ticket) in
    let as_before : slice_set c.take_ticket.new.slots.items c.args.slot (Some c.into_ticket.result) ≡ slots = (λ k. slice_set (c.in-Some.ensures.slots k) c.args.slot (Some (same k))) ∙ back-in slots c.args.slot t c.in-Some.ensures.ticket in
    subst (AreOf c.args.job.now) (sym as_before) c.requires.of

pub returns-in-Err-Doubled-clause-brings : goal.returns-in-Err-Doubled-clause-brings
returns-in-Err-Doubled-clause-brings c =
    let p = c.args.part.now in
    let t = c.in-Some.ticket in
    let slots = c.args.slots.now.items in
    let g = rw c.in-Err-Doubled.field-0-is at c.in-Err-Doubled.ensures.gives in
    let same : c.into_ticket-in-Err-Doubled.result ≡ t = same-ticket _ _ _ c.into_ticket-in-Err-Doubled.ensures (ap (λ (x : PartialState). x.tickets) g.partial ∙ c.in-Ok.ensures.ticket) in
    let as_before : slice_set c.take_ticket.new.slots.items c.args.slot (Some c.into_ticket-in-Err-Doubled.result) ≡ slots = (λ k. slice_set (c.in-Some.ensures.slots k) c.args.slot (Some (same k))) ∙ back-in slots c.args.slot t c.in-Some.ensures.ticket in
    subst (λ (s : PartState × Slots). BringsTo c.args.slot reply.Doubled p slots s.0 s.1) (λ k. (sym g.same k, sym as_before k))
    (doubled c.in-Some.ensures.ticket (handed-alone c.in-Ok.partial t p c.in-Ok.ensures.ticket g.reason.handed) (returned-alone c.in-Ok.partial t p c.in-Ok.ensures.ticket g.reason))

pub returns-in-Err-Doubled-clause-of : goal.returns-in-Err-Doubled-clause-of
returns-in-Err-Doubled-clause-of c =
    let p = c.args.part.now in
    let t = c.in-Some.ticket in
    let slots = c.args.slots.now.items in
    let g = rw c.in-Err-Doubled.field-0-is at c.in-Err-Doubled.ensures.gives in
    let same : c.into_ticket-in-Err-Doubled.result ≡ t = same-ticket _ _ _ c.into_ticket-in-Err-Doubled.ensures (ap (λ (x : PartialState). x.tickets) g.partial ∙ c.in-Ok.ensures.ticket) in
    let as_before : slice_set c.take_ticket.new.slots.items c.args.slot (Some c.into_ticket-in-Err-Doubled.result) ≡ slots = (λ k. slice_set (c.in-Some.ensures.slots k) c.args.slot (Some (same k))) ∙ back-in slots c.args.slot t c.in-Some.ensures.ticket in
    subst (AreOf c.args.job.now) (sym as_before) c.requires.of
