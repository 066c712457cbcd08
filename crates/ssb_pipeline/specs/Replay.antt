-- What a list of calls of a part, and of a twin that was opened alike, comes to.
-- Source: own.
use Rattle.std.specs.Prelude.{◌≡◌, ℕ, true, false, List, [], ◌∷◌, ◌++◌, ◌⊎◌, Option, None, Some, IfSome, slice_get, slice_set}
use Rattle.std.specs.List.{All}
use Rattle.ssb_job.specs.Kept.{AreOneJob}
use Rattle.ssb_plan.specs.JobShape.{JobShape}
use Rattle.ssb_pipeline.specs.Part.{GivesUp, Grows, HandsNext, HandsNone, IsLawfulPart, IsOpening, IsWhole, PartState, Ran, Returns, has, is_handed_out}
use Rattle.ssb_pipeline.specs.Tickets.{TicketState}
use Rattle.ssb_pipeline.specs.declared.calls.Call.{Call}
use Rattle.ssb_pipeline.specs.declared.calls.Call.TheVariants as call
use Rattle.ssb_pipeline.specs.declared.calls.Reply.{Reply}
use Rattle.ssb_pipeline.specs.declared.calls.Reply.TheVariants as reply

-- the tickets that came, in their order, each in a slot of its own, which is empty once the ticket was used
abbrev pub Slots : Type 0
Slots = List (Option TicketState)

-- the own part, its twin, and the slots
pub record Replaying : Type 0 where
  pub own : PartState
  pub twin : PartState
  pub slots : Slots

-- the ticket lies in this slot
abbrev pub LiesIn : Slots → ℕ → TicketState → Type 0
LiesIn slots j t = slice_get slots j ≡ Some (Some t)

-- no ticket does
abbrev pub IsEmpty : Slots → ℕ → Type 0
IsEmpty slots j = (slice_get slots j ≡ None) ⊎ (slice_get slots j ≡ Some None)

-- each ticket in them is of this job
abbrev pub AreOf : JobShape → Slots → Type 0
AreOf j slots = All (λ place. IfSome place (λ t. AreOneJob t.job j)) slots

-- a part is swept: all of its section is back, and nothing was given up meanwhile
pub record Sweeps (p q : PartState) : Type 0 where
  pub ran : Ran p q
  pub grows : Grows p q
  pub whole : IsWhole q

-- what a part that hands out comes to, with the slots: a ticket, which lies in the next slot, or none
pub data HandsTo : Reply → PartState → Slots → PartState → Slots → Type 0 where
  ticket : {t : TicketState} {p q : PartState} {slots : Slots} → HandsNext t p q → HandsTo (reply.Ticket t.morsel) p slots q (slots ++ Some t ∷ [])
  none : {p q : PartState} {slots : Slots} → HandsNone p q → HandsTo reply.NoMorsel p slots q slots

-- what the ticket in a slot comes to where groups over its morsel come back: its number comes back, or it is refused and stays in its slot
pub data BringsTo (j : ℕ) : Reply → PartState → Slots → PartState → Slots → Type 0 where
  taken : {t : TicketState} {p q : PartState} {slots : Slots} → LiesIn slots j t → is_handed_out p t ≡ true → Returns t.morsel p q → BringsTo j reply.Done p slots q (slice_set slots j None)
  strange : {t : TicketState} {p : PartState} {slots : Slots} → LiesIn slots j t → is_handed_out p t ≡ false → BringsTo j reply.NotHandedOut p slots p slots
  doubled : {t : TicketState} {p : PartState} {slots : Slots} → LiesIn slots j t → is_handed_out p t ≡ true → has p.returned t.morsel ≡ true → BringsTo j reply.Doubled p slots p slots
  empty : {p : PartState} {slots : Slots} → IsEmpty slots j → BringsTo j reply.NoTicket p slots p slots

-- the same where the ticket is given up
pub data GivesTo (j : ℕ) : Reply → PartState → Slots → PartState → Slots → Type 0 where
  given : {t : TicketState} {p q : PartState} {slots : Slots} → LiesIn slots j t → GivesUp t p q → GivesTo j reply.Done p slots q (slice_set slots j None)
  empty : {p : PartState} {slots : Slots} → IsEmpty slots j → GivesTo j reply.NoTicket p slots p slots

-- what a call comes to: its reply, and the parts and slots then
pub data Answers : Call → Reply → Replaying → Replaying → Type 0 where
  hand : {r : Reply} {p q twin : PartState} {a b : Slots} → HandsTo r p a q b → Answers call.Hand r (record { own = p; twin = twin; slots = a }) (record { own = q; twin = twin; slots = b })
  twin_hand : {r : Reply} {own p q : PartState} {a b : Slots} → HandsTo r p a q b → Answers call.TwinHand r (record { own = own; twin = p; slots = a }) (record { own = own; twin = q; slots = b })
  back : {j : ℕ} {r : Reply} {p q twin : PartState} {a b : Slots} → BringsTo j r p a q b → Answers (call.Back j) r (record { own = p; twin = twin; slots = a }) (record { own = q; twin = twin; slots = b })
  up : {j : ℕ} {r : Reply} {p q twin : PartState} {a b : Slots} → GivesTo j r p a q b → Answers (call.Up j) r (record { own = p; twin = twin; slots = a }) (record { own = q; twin = twin; slots = b })
  sweep : {p q twin : PartState} {slots : Slots} → Sweeps p q → Answers call.Sweep reply.Done (record { own = p; twin = twin; slots = slots }) (record { own = q; twin = twin; slots = slots })

-- what a list of calls comes to: one reply for each
pub data Replays : List Call → List Reply → Replaying → Replaying → Type 0 where
  over : {s : Replaying} → Replays [] [] s s
  next : {c : Call} {cs : List Call} {r : Reply} {rs : List Reply} {s m t : Replaying} → Answers c r s m → Replays cs rs m t → Replays (c ∷ cs) (r ∷ rs) s t

-- from a part of this section and a twin, both as they are opened, calls lead to this part, with these replies
pub record IsReplay (j : JobShape) (size section sections : ℕ) (calls : List Call) (part : PartState) (replies : List Reply) : Type 0 where
  pub own : PartState
  pub twin : PartState
  pub own_opening : IsOpening j size section sections own
  pub twin_opening : IsOpening j size section sections twin
  pub end : Replaying
  pub replays : Replays calls replies (record { own = own; twin = twin; slots = [] }) end
  pub ended : part ≡ end.own
  pub lawful : IsLawfulPart part
