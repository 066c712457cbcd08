-- Tickets, and which of them make a batch: one at least, alike, and no morsel twice.
-- Source: morsels are those of Leis and others, Morsel-Driven Parallelism, SIGMOD 2014; that work is handed out by tickets is this project's own.
use Rattle.std.specs.Prelude.{ℕ, Bool, false, not, nat_eq, ◌&&◌, ◌||◌, if◌then◌else◌, List, [], ◌∷◌, map, Option, None, Some}
use Rattle.std.specs.List.{list_all, list_any}
use Rattle.ssb_plan.specs.JobShape.{JobShape}
use Rattle.ssb_pipeline.specs.declared.batch.BatchFault.{BatchFault}
use Rattle.ssb_pipeline.specs.declared.batch.BatchFault.TheVariants as fault

-- a morsel of a job that was handed out: its number, among morsels of this size, and the section of so many that it lies in
pub record TicketState : Type 0 where
  pub job : JobShape
  pub size : ℕ
  pub section : ℕ
  pub sections : ℕ
  pub morsel : ℕ

-- the numbers of the morsels of some tickets
abbrev pub morsels_of : List TicketState → List ℕ
morsels_of ts = map (λ t. t.morsel) ts

-- two tickets are for morsels of one size, in one section of as many
abbrev pub is_alike : TicketState → TicketState → Bool
is_alike a b = nat_eq a.size b.size && (nat_eq a.section b.section && nat_eq a.sections b.sections)

-- some number stands twice
abbrev pub has_twice : List ℕ → Bool
has_twice [] = false
has_twice (i ∷ is) = list_any (nat_eq i) is || has_twice is

-- the least fault of some tickets as a batch, before memory is asked for
abbrev pub batch_fault : List TicketState → Option BatchFault
batch_fault [] = Some fault.NoTicket
batch_fault (t ∷ ts) =
    if not (list_all (is_alike t) ts) then Some fault.MixedTickets
    else (if has_twice (morsels_of (t ∷ ts)) then Some fault.MorselTwice else None)
