-- A partial that comes back to a part, by the part's fields.
use Rattle.std.proofs.Common.{◌≡◌, ◌∙◌, ◌++◌, Bool, true, false, ℕ, List, length, take, drop, sym, ap, subst}
use Rattle.std.specs.List.{All, list_all, list_any}
use Rattle.std.specs.Arc.{arc_value}
use Rattle.std.proofs.Math.Seq.{take-append_seam}
use Rattle.ssb_job.specs.Kept.{AreOneJob}
use Rattle.ssb_pipeline.specs.Marks.{IsKept}
use Rattle.ssb_pipeline.specs.Part.{has, is_handed_out}
use Rattle.ssb_pipeline.specs.State.{IsOfTickets, PartialState}
use Rattle.ssb_pipeline.specs.Tickets.{TicketState}
use Rattle.ssb_pipeline.specs.declared.part.Part.TheInside.{Inside}
use Rattle.ssb_pipeline.proofs.PartFacts.{IsDue, state}

abbrev pub Keeps : Inside → Type 0
Keeps p = IsKept (arc_value p.job) p.size p.section p.sections p.first p.next p.marks.items p.back p.groups × (length p.given.items ≡ length p.marks.items)

abbrev pub Awaits : Inside → PartialState → Type 0
Awaits p x = IsDue (arc_value p.job) p.size p.section p.sections p.first p.next p.back p.marks.items p.given.items p.gave_up p.groups x

-- the part waits for a partial, as its own tests say
pub awaits : (p : Inside) → Keeps p → (x : PartialState) (ts us : List TicketState) → ts ≡ x.tickets → us ≡ x.tickets
    → list_all (is_handed_out (state (arc_value p.job) p.size p.section p.sections p.first p.next p.marks.items p.given.items p.gave_up p.groups)) ts ≡ true
    → list_any (λ t. has (state (arc_value p.job) p.size p.section p.sections p.first p.next p.marks.items p.given.items p.gave_up p.groups).returned t.morsel) us ≡ false
    → All (λ t. AreOneJob t.job (arc_value p.job)) x.tickets → IsOfTickets x → Awaits p x
awaits p kept x ts us here there handed fresh one of = record {
  kept = kept.0;
  long = kept.1;
  handed = subst (λ vs. list_all (is_handed_out (state (arc_value p.job) p.size p.section p.sections p.first p.next p.marks.items p.given.items p.gave_up p.groups)) vs ≡ true) here handed;
  fresh = subst (λ vs. list_any (λ t. has (state (arc_value p.job) p.size p.section p.sections p.first p.next p.marks.items p.given.items p.gave_up p.groups).returned t.morsel) vs ≡ false) there fresh;
  one = one;
  of = of;
}

-- a list of as many in the place of one
pub in-place : (m : ℕ) (new old : List Bool) → length new ≡ m → take m (new ++ drop (length new) old) ≡ new
in-place m new old e = ap (λ n. take n (new ++ drop (length new) old)) (sym e) ∙ take-append_seam new (drop (length new) old)
