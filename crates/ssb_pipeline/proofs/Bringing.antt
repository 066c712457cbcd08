-- A partial of one ticket that comes back.
use Rattle.std.proofs.Common.{◌≡◌, ◌∙◌, ◌∷◌, [], false, true, List, map, sym, ap, subst}
use Rattle.std.specs.List.{All, list_all, list_any}
use Rattle.std.proofs.lemmas.List.Elements.{All-cons, All-nil}
use Rattle.ssb_job.specs.Kept.{AreOneJob}
use Rattle.ssb_plan.specs.JobShape.{JobShape}
use Rattle.ssb_pipeline.specs.Part as event
use Rattle.ssb_pipeline.specs.Part.{AreHandedOut, HaveComeBack, IsTaken, PartState, Returns, Runs, has, is_handed_out}
use Rattle.ssb_pipeline.specs.State.{PartialState}
use Rattle.ssb_pipeline.specs.Tickets.{TicketState, morsels_of}
use Rattle.ssb_pipeline.proofs.BatchFacts.{all-of-one, any-of-one}

pub one-alone : (x : PartialState) (t : TicketState) (j : JobShape) → x.tickets ≡ t ∷ [] → AreOneJob t.job j → All (λ u. AreOneJob u.job j) x.tickets
one-alone x t j is job = subst (All (λ u. AreOneJob u.job j)) (sym is) (All-cons (λ u. AreOneJob u.job j) t [] job (All-nil (λ u. AreOneJob u.job j)))

-- its return is one of its number
pub return-alone : (x : PartialState) (t : TicketState) (p q : PartState) → x.tickets ≡ t ∷ [] → IsTaken x p q → Returns t.morsel p q
return-alone x t p q is taken =
    let r : Runs (map event.back (morsels_of (t ∷ []))) p q = subst (λ ts. Runs (map event.back (morsels_of ts)) p q) is taken.returns in
    subst (Returns t.morsel p) (sym r.2) r.1

-- what is known of its tickets is known of the one
pub handed-alone : (x : PartialState) (t : TicketState) (p : PartState) → x.tickets ≡ t ∷ [] → AreHandedOut p x.tickets → is_handed_out p t ≡ true
handed-alone x t p is handed = sym (all-of-one (is_handed_out p t)) ∙ ap (list_all (is_handed_out p)) (sym is) ∙ handed

pub strange-alone : (x : PartialState) (t : TicketState) (p : PartState) → x.tickets ≡ t ∷ [] → list_all (is_handed_out p) x.tickets ≡ false → is_handed_out p t ≡ false
strange-alone x t p is none = sym (all-of-one (is_handed_out p t)) ∙ ap (list_all (is_handed_out p)) (sym is) ∙ none

pub returned-alone : (x : PartialState) (t : TicketState) (p : PartState) → x.tickets ≡ t ∷ [] → HaveComeBack true p x.tickets → has p.returned t.morsel ≡ true
returned-alone x t p is h = sym (any-of-one (has p.returned t.morsel)) ∙ ap (list_any (λ u. has p.returned u.morsel)) (sym is) ∙ h.back

head_or : TicketState → List TicketState → TicketState
head_or d [] = d
head_or d (t ∷ ts) = t

-- two names of one ticket
pub same-ticket : (ts : List TicketState) (t u : TicketState) → ts ≡ t ∷ [] → ts ≡ u ∷ [] → t ≡ u
unfolding head_or
same-ticket ts t u a b = ap (head_or t) (sym a ∙ b)
