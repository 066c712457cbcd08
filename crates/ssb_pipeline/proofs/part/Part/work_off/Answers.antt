use Rattle.std.proofs.Common.{◌∙◌, sym, ap, subst}
use Rattle.ssb_pipeline.specs.Part.{Grows, IsLawfulPart, PartState, Ran}
use Rattle.ssb_pipeline.specs.Tickets.{TicketState}
use Rattle.ssb_pipeline.proofs.BatchFacts.{one-handed}
use Rattle.ssb_pipeline.proofs.Later.{grows-more, hand-follows}
use Rattle.ssb_pipeline.proofs.RunFacts.{ran_after}
use Rattle.ssb_pipeline.proofs.WorkFacts.{all-back, fewer-left, is-fresh, is-out, nothing-yet, one-more}
use Rattle.ssb_pipeline.proofs.part.Part.work_off.Goals as goal

pub loop-ticket-init : goal.loop-ticket-init
loop-ticket-init c = record { worked = nothing-yet c.args.self.now c.lawful.ensures; scratch = c.new-scratch.ensures ∙ c.deref.ensures ∙ ap (λ (p : PartState). p.job) c.self.view_is }

pub bring_back-requires-clause-one_job : goal.bring_back-requires-clause-one_job
bring_back-requires-clause-one_job c = ap (λ (t : TicketState). t.job) c.in-Some.ensures.hands.ticket ∙ sym (ap (λ (p : PartState). p.job) c.in-Some.ensures.hands.hands.after)

pub bring_back-requires-clause-scratch : goal.bring_back-requires-clause-scratch
bring_back-requires-clause-scratch c = c.loop-ticket.invariant.scratch ∙ sym (ap (λ (p : PartState). p.job) c.in-Some.ensures.hands.hands.after)

pub bring_back-requires-clause-handed : goal.bring_back-requires-clause-handed
bring_back-requires-clause-handed c =
    let h = c.in-Some.ensures.hands.hands in
    one-handed c.hand_out.new.self c.in-Some.ticket (ap (λ (t : TicketState). t.size) c.in-Some.ensures.hands.ticket ∙ sym (ap (λ (p : PartState). p.size) h.after)) (is-out c.in-Some.ticket.morsel c.loop-ticket.self c.hand_out.new.self h)

pub bring_back-requires-clause-fresh : goal.bring_back-requires-clause-fresh
bring_back-requires-clause-fresh c = is-fresh c.in-Some.ticket.morsel c.loop-ticket.self c.hand_out.new.self c.loop-ticket.invariant.worked.lawful c.in-Some.ensures.hands.hands

pub returns-in_err-bring_back-clause-grows : goal.returns-in_err-bring_back-clause-grows
returns-in_err-bring_back-clause-grows c =
    let h = c.in-Some.ensures.hands.hands in
    let later = hand-follows c.in-Some.ticket.morsel c.loop-ticket.self c.hand_out.new.self h in
    subst (Grows c.args.self.now) (sym c.in_err-bring_back.ensures.err) (grows-more c.args.self.now c.loop-ticket.self c.hand_out.new.self c.loop-ticket.invariant.worked.grows later (ap (λ (p : PartState). p.gave_up) h.after))

pub returns-in_err-bring_back-clause-lawful : goal.returns-in_err-bring_back-clause-lawful
returns-in_err-bring_back-clause-lawful c = subst IsLawfulPart (sym c.in_err-bring_back.ensures.err) c.lawful-in-Some.ensures

pub loop-ticket-smaller : goal.loop-ticket-smaller
loop-ticket-smaller c = fewer-left c.in-Some.ticket.morsel c.loop-ticket.self c.hand_out.new.self c.bring_back.new.self c.in-Some.ensures.hands.hands c.lawful-in-Some.ensures c.in_ok-bring_back.ensures.back

pub loop-ticket-preserved : goal.loop-ticket-preserved
loop-ticket-preserved c = record {
  worked = one-more c.in-Some.ticket.morsel c.args.self.now c.loop-ticket.self c.hand_out.new.self c.bring_back.new.self c.loop-ticket.invariant.worked c.in-Some.ensures.hands.hands c.in_ok-bring_back.ensures.back c.lawful-in-Some-2.ensures;
  scratch = c.in_ok-bring_back.ensures.same ∙ c.loop-ticket.invariant.scratch ∙ sym (ap (λ (p : PartState). p.job) c.in-Some.ensures.hands.hands.after) ∙ sym c.in_ok-bring_back.ensures.job;
}

pub returns-in_err-bring_back-clause-ran : goal.returns-in_err-bring_back-clause-ran
returns-in_err-bring_back-clause-ran c = subst (Ran c.args.self.now) (sym c.in_err-bring_back.ensures.err) (ran_after _ c.loop-ticket.self _ c.loop-ticket.invariant.worked.ran c.in-Some.ensures.ran)

pub returns-clause-ran : goal.returns-clause-ran
returns-clause-ran c = subst (Ran c.args.self.now) (sym c.in_default.ensures.hands.same) c.loop-ticket.invariant.worked.ran

pub returns-clause-grows : goal.returns-clause-grows
returns-clause-grows c = subst (Grows c.args.self.now) (sym c.in_default.ensures.hands.same) c.loop-ticket.invariant.worked.grows

pub returns-clause-whole : goal.returns-clause-whole
returns-clause-whole c = λ back going. all-back c.args.self.now c.loop-ticket.self c.hand_out.new.self c.loop-ticket.invariant.worked c.in_default.ensures.hands back going

pub returns-clause-lawful : goal.returns-clause-lawful
returns-clause-lawful c = subst IsLawfulPart (sym c.in_default.ensures.hands.same) c.loop-ticket.invariant.worked.lawful
