-- What a worker's hold of a part leaves.
-- Source: own.
use Rattle.std.specs.Prelude.{◌≡◌, ℕ, ◌≤◌, ◌||◌, true, false, not, List, [], ◌∷◌, ◌++◌, ◌⊎◌, length, All, Result, Ok, Err, Vec}
use Rattle.std.specs.List.{filter}
use Rattle.ssb_pipeline.specs.Part.{Follows, IsEnded, IsTicketOf, PartState, Ran, handed_between, has, is_open}
use Rattle.ssb_pipeline.specs.Rule.{Knows}
use Rattle.ssb_pipeline.specs.State.{PartialState}
use Rattle.ssb_pipeline.specs.Tickets.{TicketState, morsels_of}
use Rattle.ssb_pipeline.specs.Work.{AreSettled, IsExhausted}
use Rattle.std.specs.declared.alloc.Global.{Global}

-- a ticket of the part that the pass saw, for a morsel that is due to the pass
pub record IsDueTo (v : Knows) (t : TicketState) : Type 0 where
  pub of : IsTicketOf v.seen t
  pub due : has v.due t.morsel ≡ true

-- ---- tickets are handed out

-- Up to so many tickets were handed out in one hold, and perhaps one more, which was given up; where there is no ticket, all is handed out or one was
-- given up.
pub record HandsBatch (room : ℕ) (ts : List TicketState) (p q : PartState) : Type 0 where
  pub ran : Ran p q
  pub many : length ts ≤ room
  pub lost : List ℕ
  pub between : handed_between p q ≡ morsels_of ts ++ lost
  pub apart : (k : ℕ) → has (morsels_of ts) k ≡ true → has lost k ≡ false
  pub gave : (q.gave_up ≡ true) ⊎ (lost ≡ [])
  pub returned : q.returned ≡ p.returned
  pub given : (k : ℕ) → has q.given k ≡ (has lost k || has p.given k)
  pub of : All (IsTicketOf q) ts
  pub ended : ts ≡ [] → IsEnded q

-- what the pass knows then: the tickets, and no other ones, are due besides
pub record GetsTickets (batch : ℕ) (ts : List TicketState) (v w : Knows) : Type 0 where
  pub many : length ts ≤ batch
  pub lost : List ℕ
  pub mine : w.mine ≡ v.mine ++ (morsels_of ts ++ lost)
  pub due : w.due ≡ v.due ++ morsels_of ts
  pub fresh : (k : ℕ) → has (morsels_of ts) k ≡ true → has v.due k ≡ false
  pub follows : Follows w.seen v.seen
  pub gave : (w.seen.gave_up ≡ true) ⊎ (lost ≡ [])
  pub of : All (IsTicketOf w.seen) ts
  pub ended : ts ≡ [] → IsExhausted w

-- ---- a batch comes back

-- what comes back of tickets: groups over their morsels, or the tickets themselves
abbrev pub IsBatchOf : List TicketState → Result PartialState (Vec TicketState Global) → Type 0
IsBatchOf ts (Ok x) = x.tickets ≡ ts
IsBatchOf ts (Err us) = us.items ≡ ts

-- it is of tickets that are all such
pub record IsBatchWith (P : TicketState → Type 0) (made : Result PartialState (Vec TicketState Global)) : Type 0 where
  pub tickets : List TicketState
  pub of : IsBatchOf tickets made
  pub each : All P tickets

-- these numbers came back or were given up, and nothing else happened
pub record Settles (is : List ℕ) (p q : PartState) : Type 0 where
  pub ran : Ran p q
  pub handed : q.handed ≡ p.handed
  pub each : (k : ℕ) → has is k ≡ true → is_open q k ≡ false
  pub returned : (k : ℕ) → has is k ≡ false → has q.returned k ≡ has p.returned k
  pub given : (k : ℕ) → has is k ≡ false → has q.given k ≡ has p.given k
  pub back : AreSettled is q

-- xs without these
abbrev pub without_all : List ℕ → List ℕ → List ℕ
without_all is xs = filter (λ k. not (has is k)) xs

-- what the pass knows after a hold of its own in which a batch came back: its numbers, and no others, are due no more
pub record BringsBatch (ts : List TicketState) (v w : Knows) : Type 0 where
  pub mine : w.mine ≡ v.mine
  pub due : w.due ≡ without_all (morsels_of ts) v.due
  pub follows : Follows w.seen v.seen
  pub back : AreSettled (morsels_of ts) w.seen

-- one number more at least was handed out to the pass
pub record IsMore (v w : Knows) : Type 0 where
  pub first : ℕ
  pub others : List ℕ
  pub mine : w.mine ≡ v.mine ++ first ∷ others
