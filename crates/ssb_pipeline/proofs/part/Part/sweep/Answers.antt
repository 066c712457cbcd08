use Rattle.std.proofs.Common.{◌≡◌, ◌+◌, ◌∙◌, true, true≢false, sym, ap, subst}
use Rattle.ssb_pipeline.specs.Part.{PartState, Ran, Returns, has}
use Rattle.ssb_pipeline.specs.Tickets.{TicketState}
use Rattle.ssb_pipeline.proofs.BatchFacts.{one-handed}
use Rattle.ssb_pipeline.proofs.SweepFacts.{IsSwept, all-done, begins, goes-on, next-handed, passes, was-back}
use Rattle.ssb_pipeline.proofs.part.Part.sweep.Goals as goal
use Rattle.ssb_pipeline.proofs.part.Part.sweep.Goals.{then-not-is_back+in_ok-bring_back, else-not-is_back}

pub loop-morsel-init : goal.loop-morsel-init
loop-morsel-init c = record {
  swept = begins c.args.self.now c.hand_out_all.new.self c.bounds-first.result.0 c.bounds-first.result.1 c.lawful.ensures c.hand_out_all.ensures c.lawful-2.ensures c.bounds-first.ensures.ours;
  scratch = c.new-scratch.ensures ∙ c.deref.ensures ∙ ap (λ (p : PartState). p.job) c.self.view_is;
}

pub bring_back-requires-clause-scratch : goal.bring_back-requires-clause-scratch
bring_back-requires-clause-scratch c = c.loop-morsel.invariant.scratch

pub bring_back-requires-clause-handed : goal.bring_back-requires-clause-handed
bring_back-requires-clause-handed c =
    let l = c.loop-morsel in
    let ticket = c.ticket_for-ticket.ensures in
    one-handed l.self c.ticket_for-ticket.result (ap (λ (t : TicketState). t.size) ticket)
    (subst (λ (t : TicketState). has l.self.handed t.morsel ≡ true) (sym ticket) (next-handed c.args.self.now l.self c.bounds-first.result.0 c.bounds-first.result.1 l.morsel l.invariant.swept l.auto.morsel c.loop-morsel-test.true))

pub loop-morsel-preserved : goal.loop-morsel-preserved
loop-morsel-preserved c =
    let l = c.loop-morsel in
    let first = c.bounds-first.result.0 in
    let end = c.bounds-first.result.1 in
    elim c.if-not-is_back.branch [
      | then-not-is_back+in_ok-bring_back w ↦
          record {
            swept =
                subst (λ (q : PartState). IsSwept c.args.self.now q first end (l.morsel + 1)) (sym w.self-is)
                (goes-on c.args.self.now l.self w.bring_back.new.self first end l.morsel l.invariant.swept l.auto.morsel c.loop-morsel-test.true
                (subst (λ (t : TicketState). Returns t.morsel l.self w.bring_back.new.self) w.ticket_for-ticket.ensures w.in_ok-bring_back.ensures.back) w.lawful-then-not-is_back.ensures);
            scratch = w.scratch-is ∙ w.in_ok-bring_back.ensures.same ∙ l.invariant.scratch ∙ sym w.in_ok-bring_back.ensures.job ∙ sym (ap (λ (p : PartState). p.job) w.self-is);
          }
      | else-not-is_back w ↦
          record {
            swept =
                subst (λ (q : PartState). IsSwept c.args.self.now q first end (l.morsel + 1)) (sym w.self-is)
                (passes c.args.self.now l.self first end l.morsel l.invariant.swept (sym c.is_back.ensures ∙ w.if-not-is_back.false));
            scratch = w.scratch-is ∙ l.invariant.scratch ∙ sym (ap (λ (p : PartState). p.job) w.self-is);
          }
    ]

pub returns-clause-whole : goal.returns-clause-whole
returns-clause-whole c =
    let l = c.loop-morsel in
    all-done c.args.self.now l.self c.bounds-first.result.0 c.bounds-first.result.1 l.morsel l.invariant.swept c.bounds-first.ensures.order c.loop-morsel-test.false

pub bring_back-requires-clause-one_job : goal.bring_back-requires-clause-one_job
bring_back-requires-clause-one_job c = ap (λ (t : TicketState). t.job) c.ticket_for-ticket.ensures

pub returns-clause-ran : goal.returns-clause-ran
returns-clause-ran c = c.loop-morsel.invariant.swept.ran

pub returns-in_err-bring_back-clause-ran : goal.returns-in_err-bring_back-clause-ran
returns-in_err-bring_back-clause-ran c = subst (Ran c.args.self.now) (sym c.in_err-bring_back.ensures.err) c.loop-morsel.invariant.swept.ran

pub returns-in_err-bring_back-clause-at_once : goal.returns-in_err-bring_back-clause-at_once
returns-in_err-bring_back-clause-at_once c = λ whole.
    let l = c.loop-morsel in
    absurd (true≢false (sym (was-back c.args.self.now l.self c.bounds-first.result.0 c.bounds-first.result.1 l.morsel l.invariant.swept whole l.auto.morsel c.loop-morsel-test.true) ∙ (sym c.is_back.ensures ∙ c.if-not-is_back.true)))

pub returns-in_err-bring_back-clause-same : goal.returns-in_err-bring_back-clause-same
returns-in_err-bring_back-clause-same c = λ whole. ap (λ (x : PartState). x.groups) c.in_err-bring_back.ensures.err ∙ c.loop-morsel.invariant.swept.same whole

pub returns-clause-same : goal.returns-clause-same
returns-clause-same c = c.loop-morsel.invariant.swept.same
