use Rattle.std.proofs.Common.{◌≡◌, ◌∙◌, ◌<◌, ◌+◌, ℕ, true, inl, inr, length, refl, sym, ap, subst, arith}
use Rattle.std.proofs.Math.Nat.{eq-or-lt_of_le}
use Rattle.std.specs.Arc.{arc_value}
use Rattle.ssb_pipeline.specs.Part.{Hands, PartState, hand, has, ours, ticket_of}
use Rattle.ssb_pipeline.specs.Tickets.{TicketState}
use Rattle.ssb_pipeline.proofs.PartFacts.{all-handed, handed-kept, hands-next, state}
use Rattle.ssb_pipeline.proofs.RunFacts.{ran_one, ran_self}
use Rattle.ssb_pipeline.proofs.part.Part.hand_out.Goals as goal
use Rattle.ssb_pipeline.proofs.part.Part.hand_out.Goals.{then-self-via-then-self, then-self-via-else-self+then-self-len}

pub returns-then-self-clause-hands : goal.returns-then-self-clause-hands
returns-then-self-clause-hands c =
    let p = c.self.inside in
    let none_left : p.next ≡ length p.marks.items → (i : ℕ) → has (ours c.args.self.now) i ≡ true → has c.args.self.now.handed i ≡ true =
    λ e. subst (λ (q : PartState). (i : ℕ) → has (ours q) i ≡ true → has q.handed i ≡ true) c.self.view_is (all-handed (arc_value p.job) p.size p.section p.sections p.first p.next p.back p.marks.items p.groups c.self.invariant.0 e) in
    record {
      same = refl;
      ended = elim c.then-self.branch [
        | then-self-via-then-self w ↦ inl (sym (ap (λ (q : PartState). q.gave_up) c.self.view_is) ∙ w.if-self.true)
        | then-self-via-else-self+then-self-len w ↦ inr (none_left (let e = w.if-self-len.true in let n = w.len.ensures in omega (arith, e, n)))
      ];
    }

pub returns-then-self-clause-ran : goal.returns-then-self-clause-ran
returns-then-self-clause-ran c = ran_self c.args.self.now

pub overflow_add-self-inside : goal.overflow_add-self-inside
overflow_add-self-inside c = let f = c.self.invariant.0.fits in let b = c.self.invariant.0.bound in omega (arith, f, b)

pub overflow_add-self : goal.overflow_add-self
overflow_add-self c =
    let lt : c.self.inside.next < length c.self.inside.marks.items = elim (eq-or-lt_of_le c.self.invariant.0.fits) [ inl e ↦ absurd (c.if-self-len.false (let n = c.len.ensures in omega (arith, e, n))) | inr l ↦ l ] in
    let b = c.self.invariant.0.bound in
    omega (arith, lt, b)

pub returns-clause-hands : goal.returns-clause-hands
returns-clause-hands c =
    let p = c.self.inside in
    let j = arc_value p.job in
    let lt : p.next < length p.marks.items = elim (eq-or-lt_of_le c.self.invariant.0.fits) [ inl e ↦ absurd (c.if-self-len.false (let n = c.len.ensures in omega (arith, e, n))) | inr l ↦ l ] in
    let hands = hands-next j p.size p.section p.sections p.first p.next p.back p.marks.items p.given.items p.gave_up p.groups c.self.invariant.0 lt c.if-self.false in
    let after = state j p.size p.section p.sections p.first (p.next + 1) p.marks.items p.given.items p.gave_up p.groups in
    let ticket = c.ticket_for-ticket.ensures in
    record {
      hands = subst (λ (t : TicketState). Hands t.morsel c.args.self.now after) (sym ticket) (subst (λ (q : PartState). Hands (p.first + p.next) q after) c.self.view_is hands);
      ticket = ticket ∙ ap (λ (t : TicketState). ticket_of c.args.self.now t.morsel) (sym ticket);
    }

pub returns-clause-ran : goal.returns-clause-ran
returns-clause-ran c = ran_one (hand c.ticket_for-ticket.result.morsel) _ _ (returns-clause-hands c).hands

pub invariant_of-self : goal.invariant_of-self
invariant_of-self c =
    let p = c.self.inside in
    let lt : p.next < length p.marks.items = elim (eq-or-lt_of_le c.self.invariant.0.fits) [ inl e ↦ absurd (c.if-self-len.false (let n = c.len.ensures in omega (arith, e, n))) | inr l ↦ l ] in
    (handed-kept (arc_value p.job) p.size p.section p.sections p.first p.next (p.next + 1) p.back p.marks.items p.groups c.self.invariant.0 (omega arith) (omega (arith, lt)), c.self.invariant.1)
