use Rattle.std.proofs.Common.{◌≡◌, ◌∙◌, ◌+◌, ◌-◌, ◌<◌, ◌≤◌, Bool, true, false, List, length, map, refl, sym, ap, subst, arith}
use Rattle.std.specs.List.{All, list_all, list_any}
use Rattle.std.specs.Arc.{arc_value}
use Rattle.std.proofs.lemmas.List.{length-map}
use Rattle.ssb_pipeline.specs.Marks.{IsKept, with_marks}
use Rattle.ssb_pipeline.specs.Part as event
use Rattle.ssb_pipeline.specs.Part.{AreHandedOut, Runs, has, is_handed_out}
use Rattle.ssb_pipeline.specs.contracts.part.Part.{the_view}
use Rattle.ssb_pipeline.specs.Tickets.{TicketState, morsels_of}
use Rattle.ssb_pipeline.proofs.Batches.{all-handed, none-returned}
use Rattle.ssb_pipeline.proofs.Due.{awaits, in-place}
use Rattle.ssb_pipeline.proofs.MarkFacts.{length-with}
use Rattle.ssb_pipeline.proofs.PartFacts.{back-few, comes-back, few-both, given-marks-there, kept-more, marks-there, one-job, state, still-long}
use Rattle.ssb_pipeline.proofs.Numbers.{not-both}
use Rattle.ssb_pipeline.proofs.part.Part.take_in.Goals as goal

pub merge_into-requires-clause-one_job : goal.merge_into-requires-clause-one_job
merge_into-requires-clause-one_job c =
    let p = c.self.inside in
    let handed = sym c.are_handed_out.ensures ∙ c.if-not-are_handed_out.false in
    let fresh = sym c.has_come_back.ensures ∙ c.if-has_come_back.false in
    let d = awaits c.self.inside c.self.invariant c.args.partial c.tickets.result.now c.tickets-2.result.now c.tickets.ensures.tickets c.tickets-2.ensures.tickets (rw (← c.self.view_is) at handed) (rw (← c.self.view_is) at fresh) (rw (← c.self.view_is) at c.requires.one_job) c.tickets.ensures.of in
    c.self.invariant.0.job ∙ sym (one-job (arc_value p.job) p.size p.section p.sections p.first p.next p.back p.marks.items p.given.items p.gave_up p.groups c.args.partial d)

pub merge_into-requires-clause-few : goal.merge_into-requires-clause-few
merge_into-requires-clause-few c =
    let p = c.self.inside in
    let handed = sym c.are_handed_out.ensures ∙ c.if-not-are_handed_out.false in
    let fresh = sym c.has_come_back.ensures ∙ c.if-has_come_back.false in
    let d = awaits c.self.inside c.self.invariant c.args.partial c.tickets.result.now c.tickets-2.result.now c.tickets.ensures.tickets c.tickets-2.ensures.tickets (rw (← c.self.view_is) at handed) (rw (← c.self.view_is) at fresh) (rw (← c.self.view_is) at c.requires.one_job) c.tickets.ensures.of in
    few-both (arc_value p.job) p.size p.section p.sections p.first p.next p.back p.marks.items p.given.items p.gave_up p.groups c.args.partial d

pub set_marks-requires : goal.set_marks-requires
set_marks-requires c =
    let p = c.self.inside in
    let handed = sym c.are_handed_out.ensures ∙ c.if-not-are_handed_out.false in
    let fresh = sym c.has_come_back.ensures ∙ c.if-has_come_back.false in
    let d = awaits c.self.inside c.self.invariant c.args.partial c.tickets.result.now c.tickets-2.result.now c.tickets.ensures.tickets c.tickets-2.ensures.tickets (rw (← c.self.view_is) at handed) (rw (← c.self.view_is) at fresh) (rw (← c.self.view_is) at c.requires.one_job) c.tickets.ensures.of in
    let there = marks-there (arc_value p.job) p.size p.section p.sections p.first p.next p.back p.marks.items p.given.items p.gave_up p.groups c.args.partial d in
    subst (λ (ts : List TicketState). All (λ t. (p.first ≤ t.morsel) × (t.morsel - p.first < length c.as_mut_slice.result.now)) ts) (sym (c.as_slice.ensures.value ∙ c.in-Ok.ensures.tickets))
    (subst (λ (marks : List Bool). All (λ (t : TicketState). (p.first ≤ t.morsel) × (t.morsel - p.first < length marks)) c.args.partial.tickets) (sym c.as_mut_slice.ensures.value) there)

pub set_marks-requires-in-Ok : goal.set_marks-requires-in-Ok
set_marks-requires-in-Ok c =
    let p = c.self.inside in
    let handed = sym c.are_handed_out.ensures ∙ c.if-not-are_handed_out.false in
    let fresh = sym c.has_come_back.ensures ∙ c.if-has_come_back.false in
    let d = awaits c.self.inside c.self.invariant c.args.partial c.tickets.result.now c.tickets-2.result.now c.tickets.ensures.tickets c.tickets-2.ensures.tickets (rw (← c.self.view_is) at handed) (rw (← c.self.view_is) at fresh) (rw (← c.self.view_is) at c.requires.one_job) c.tickets.ensures.of in
    let there = given-marks-there (arc_value p.job) p.size p.section p.sections p.first p.next p.back p.marks.items p.given.items p.gave_up p.groups c.args.partial d in
    subst (λ (ts : List TicketState). All (λ t. (p.first ≤ t.morsel) × (t.morsel - p.first < length c.as_mut_slice-in-Ok.result.now)) ts) (sym (c.as_slice-in-Ok.ensures.value ∙ c.in-Ok.ensures.tickets))
    (subst (λ (marks : List Bool). All (λ (t : TicketState). (p.first ≤ t.morsel) × (t.morsel - p.first < length marks)) c.args.partial.tickets) (sym c.as_mut_slice-in-Ok.ensures.value) there)

pub overflow_cast-self : goal.overflow_cast-self
overflow_cast-self c =
    let p = c.self.inside in
    let handed = sym c.are_handed_out.ensures ∙ c.if-not-are_handed_out.false in
    let fresh = sym c.has_come_back.ensures ∙ c.if-has_come_back.false in
    let d = awaits c.self.inside c.self.invariant c.args.partial c.tickets.result.now c.tickets-2.result.now c.tickets.ensures.tickets c.tickets-2.ensures.tickets (rw (← c.self.view_is) at handed) (rw (← c.self.view_is) at fresh) (rw (← c.self.view_is) at c.requires.one_job) c.tickets.ensures.of in
    let back : c.len.result ≡ length (morsels_of c.args.partial.tickets) = c.len.ensures ∙ sym c.as_slice.ensures.len ∙ ap length c.as_slice.ensures.value ∙ ap length c.in-Ok.ensures.tickets ∙ sym (length-map c.args.partial.tickets (λ t. t.morsel)) in
    let few = back-few (arc_value p.job) p.size p.section p.sections p.first p.next p.back p.marks.items p.given.items p.gave_up p.groups c.args.partial d in
    omega (arith, few, back)

pub overflow_add-self : goal.overflow_add-self
overflow_add-self c =
    let p = c.self.inside in
    let handed = sym c.are_handed_out.ensures ∙ c.if-not-are_handed_out.false in
    let fresh = sym c.has_come_back.ensures ∙ c.if-has_come_back.false in
    let d = awaits c.self.inside c.self.invariant c.args.partial c.tickets.result.now c.tickets-2.result.now c.tickets.ensures.tickets c.tickets-2.ensures.tickets (rw (← c.self.view_is) at handed) (rw (← c.self.view_is) at fresh) (rw (← c.self.view_is) at c.requires.one_job) c.tickets.ensures.of in
    let back : c.len.result ≡ length (morsels_of c.args.partial.tickets) = c.len.ensures ∙ sym c.as_slice.ensures.len ∙ ap length c.as_slice.ensures.value ∙ ap length c.in-Ok.ensures.tickets ∙ sym (length-map c.args.partial.tickets (λ t. t.morsel)) in
    let few = back-few (arc_value p.job) p.size p.section p.sections p.first p.next p.back p.marks.items p.given.items p.gave_up p.groups c.args.partial d in
    omega (arith, few, back)

pub invariant_of-self : goal.invariant_of-self
invariant_of-self c =
    let p = c.self.inside in
    let handed = sym c.are_handed_out.ensures ∙ c.if-not-are_handed_out.false in
    let fresh = sym c.has_come_back.ensures ∙ c.if-has_come_back.false in
    let d = awaits c.self.inside c.self.invariant c.args.partial c.tickets.result.now c.tickets-2.result.now c.tickets.ensures.tickets c.tickets-2.ensures.tickets (rw (← c.self.view_is) at handed) (rw (← c.self.view_is) at fresh) (rw (← c.self.view_is) at c.requires.one_job) c.tickets.ensures.of in
    let back : c.len.result ≡ length (morsels_of c.args.partial.tickets) = c.len.ensures ∙ sym c.as_slice.ensures.len ∙ ap length c.as_slice.ensures.value ∙ ap length c.in-Ok.ensures.tickets ∙ sym (length-map c.args.partial.tickets (λ t. t.morsel)) in
    let tickets = c.as_slice.ensures.value ∙ c.in-Ok.ensures.tickets in
    let set = c.set_marks.ensures ∙ ap (λ marks. with_marks true p.first marks (morsels_of c.as_slice.result.now)) c.as_mut_slice.ensures.value ∙ ap (λ ts. with_marks true p.first p.marks.items (morsels_of ts)) tickets in
    let long = ap length c.set_marks.ensures ∙ length-with true p.first c.as_mut_slice.result.now (morsels_of c.as_slice.result.now) ∙ c.as_mut_slice.ensures.len in
    let items = in-place p.marks.len c.set_marks.new.marks p.marks.items long ∙ set in
    let tickets-2 = c.as_slice-in-Ok.ensures.value ∙ c.in-Ok.ensures.tickets in
    let cleared = c.set_marks-in-Ok.ensures ∙ ap (λ marks. with_marks false p.first marks (morsels_of c.as_slice-in-Ok.result.now)) c.as_mut_slice-in-Ok.ensures.value ∙ ap (λ ts. with_marks false p.first p.given.items (morsels_of ts)) tickets-2 in
    let long-2 = ap length c.set_marks-in-Ok.ensures ∙ length-with false p.first c.as_mut_slice-in-Ok.result.now (morsels_of c.as_slice-in-Ok.result.now) ∙ c.as_mut_slice-in-Ok.ensures.len in
    let given = in-place p.given.len c.set_marks-in-Ok.new.marks p.given.items long-2 ∙ cleared in
    let kept = subst (λ marks. IsKept (arc_value p.job) p.size p.section p.sections p.first p.next marks (p.back + c.len.result) c.merge_into.new.groups) (sym items)
    (subst (λ n. IsKept (arc_value p.job) p.size p.section p.sections p.first p.next (with_marks true p.first p.marks.items (morsels_of c.args.partial.tickets)) (p.back + n) c.merge_into.new.groups) (sym back)
    (kept-more (arc_value p.job) p.size p.section p.sections p.first p.next p.back p.marks.items p.given.items p.gave_up p.groups c.args.partial d c.merge_into.new.groups c.in-Ok.ensures.stands c.in-Ok.ensures.job c.in-Ok.ensures.counted)) in
    (kept, ap length given ∙ still-long (arc_value p.job) p.size p.section p.sections p.first p.next p.back p.marks.items p.given.items p.gave_up p.groups c.args.partial d ∙ sym (ap length items))

pub returns-in-Ok-clause-gives : goal.returns-in-Ok-clause-gives
returns-in-Ok-clause-gives c =
    let p = c.self.inside in
    let handed = sym c.are_handed_out.ensures ∙ c.if-not-are_handed_out.false in
    let fresh = sym c.has_come_back.ensures ∙ c.if-has_come_back.false in
    let d = awaits c.self.inside c.self.invariant c.args.partial c.tickets.result.now c.tickets-2.result.now c.tickets.ensures.tickets c.tickets-2.ensures.tickets (rw (← c.self.view_is) at handed) (rw (← c.self.view_is) at fresh) (rw (← c.self.view_is) at c.requires.one_job) c.tickets.ensures.of in
    let tickets = c.as_slice.ensures.value ∙ c.in-Ok.ensures.tickets in
    let set = c.set_marks.ensures ∙ ap (λ marks. with_marks true p.first marks (morsels_of c.as_slice.result.now)) c.as_mut_slice.ensures.value ∙ ap (λ ts. with_marks true p.first p.marks.items (morsels_of ts)) tickets in
    let long = ap length c.set_marks.ensures ∙ length-with true p.first c.as_mut_slice.result.now (morsels_of c.as_slice.result.now) ∙ c.as_mut_slice.ensures.len in
    let items = in-place p.marks.len c.set_marks.new.marks p.marks.items long ∙ set in
    let tickets-2 = c.as_slice-in-Ok.ensures.value ∙ c.in-Ok.ensures.tickets in
    let cleared = c.set_marks-in-Ok.ensures ∙ ap (λ marks. with_marks false p.first marks (morsels_of c.as_slice-in-Ok.result.now)) c.as_mut_slice-in-Ok.ensures.value ∙ ap (λ ts. with_marks false p.first p.given.items (morsels_of ts)) tickets-2 in
    let long-2 = ap length c.set_marks-in-Ok.ensures ∙ length-with false p.first c.as_mut_slice-in-Ok.result.now (morsels_of c.as_slice-in-Ok.result.now) ∙ c.as_mut_slice-in-Ok.ensures.len in
    let given = in-place p.given.len c.set_marks-in-Ok.new.marks p.given.items long-2 ∙ cleared in
    let runs = comes-back (arc_value p.job) p.size p.section p.sections p.first p.next p.back p.marks.items p.given.items p.gave_up p.groups c.args.partial d c.merge_into.new.groups c.in-Ok.ensures.stands c.in-Ok.ensures.job in
    let there = subst (λ (ms : List Bool × List Bool). Runs (map event.back (morsels_of c.args.partial.tickets)) (the_view p) (state (arc_value p.job) p.size p.section p.sections p.first p.next ms.0 ms.1 p.gave_up c.merge_into.new.groups)) (λ k. (sym items k, sym given k)) runs in
    record { handed = subst (λ ts. AreHandedOut c.args.self.now ts) c.tickets.ensures.tickets handed; returns = rw (← c.self.view_is) there; after = rw (← c.self.view_is) refl }

pub returns-in-Ok-clause-ran : goal.returns-in-Ok-clause-ran
returns-in-Ok-clause-ran c = record { events = map event.back (morsels_of c.args.partial.tickets); runs = (returns-in-Ok-clause-gives c).returns }

pub returns-in-Ok-clause-due : goal.returns-in-Ok-clause-due
returns-in-Ok-clause-due c = λ all. tt

pub returns-then-not-are_handed_out-clause-due : goal.returns-then-not-are_handed_out-clause-due
returns-then-not-are_handed_out-clause-due c =
    λ all. not-both (list_all (is_handed_out c.args.self.now) c.args.partial.tickets) (all-handed c.args.self.now c.args.partial.tickets all) (sym (c.are_handed_out.ensures ∙ ap (list_all (is_handed_out c.args.self.now)) c.tickets.ensures.tickets) ∙ c.if-not-are_handed_out.true)

pub returns-then-has_come_back-clause-due : goal.returns-then-has_come_back-clause-due
returns-then-has_come_back-clause-due c =
    λ all. not-both (list_any (λ t. has c.args.self.now.returned t.morsel) c.args.partial.tickets) (sym (c.has_come_back.ensures ∙ ap (list_any (λ t. has c.args.self.now.returned t.morsel)) c.tickets-2.ensures.tickets) ∙ c.if-has_come_back.true) (none-returned c.args.self.now c.args.partial.tickets all)
