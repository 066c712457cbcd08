-- One section's part of the work: what was handed out, what came back, and the groups over what came back. And a core run: the events that change a part.
-- Source: own. It knows no marks and no counters.
use Rattle.std.specs.Prelude.{◌≡◌, ◌≤◌, ◌<◌, ◌++◌, ◌∷◌, [], ◌⊎◌, ◌&&◌, ◌||◌, ℕ, Bool, true, false, not, nat_eq, List, length, map, Option, None, Some, Result, Ok, Err, ⊤}
use Rattle.std.specs.List.{IsDistinct, filter, list_all, list_any}
use Rattle.std.specs.List.Sorted.{IsPermutation}
use Rattle.ssb_job.specs.Kept.{AreOneJob, fact_rows, kept}
use Rattle.ssb_plan.specs.JobShape.{JobShape}
use Rattle.ssb_groups.specs.Seen.{seen}
use Rattle.ssb_groups.specs.Stands.{GroupMap, Stands}
use Rattle.ssb_pipeline.specs.Joined.{seen_in}
use Rattle.ssb_pipeline.specs.Morsels.{morsel_count, section}
use Rattle.ssb_pipeline.specs.State.{PartialState}
use Rattle.ssb_pipeline.specs.Tickets.{TicketState, morsels_of}
use Rattle.ssb_pipeline.specs.declared.fault.ReturnFault.{ReturnFault}
use Rattle.ssb_pipeline.specs.declared.fault.ReturnFault.TheVariants as fault

-- A part: its job, the size of a morsel, its section of so many, the numbers handed out, those that came back, those that were given up and did not come
-- back, whether a ticket was given up, and the groups over those that came back.
pub record PartState : Type 0 where
  pub job : JobShape
  pub size : ℕ
  pub section : ℕ
  pub sections : ℕ
  pub handed : List ℕ
  pub returned : List ℕ
  pub given : List ℕ
  pub gave_up : Bool
  pub groups : GroupMap

-- whether a number is one of these
abbrev pub has : List ℕ → ℕ → Bool
has xs x = list_any (nat_eq x) xs

-- the morsels of its section
abbrev pub ours : PartState → List ℕ
ours p = section (morsel_count (fact_rows p.job) p.size) p.sections p.section

-- the handed-out numbers are distinct members of the section, the returned ones are distinct and among them, and the groups stand for the kept
-- combinations of the returned morsels
pub record IsLawfulPart (p : PartState) : Type 0 where
  pub handed : IsDistinct nat_eq p.handed
  pub within : (i : ℕ) → has p.handed i ≡ true → has (ours p) i ≡ true
  pub returned : IsDistinct nat_eq p.returned
  pub among : (i : ℕ) → has p.returned i ≡ true → has p.handed i ≡ true
  pub job : AreOneJob p.groups.job p.job
  pub stands : Stands p.groups (seen_in p.job p.size p.returned)

-- all that was handed out came back
abbrev pub IsBack : PartState → Type 0
IsBack p = (i : ℕ) → has p.handed i ≡ true → has p.returned i ≡ true

-- all of its section came back
abbrev pub IsWhole : PartState → Type 0
IsWhole p = (i : ℕ) → has (ours p) i ≡ true → has p.returned i ≡ true

-- all of its section was handed out
abbrev pub IsAllHanded : PartState → Type 0
IsAllHanded p = (i : ℕ) → has (ours p) i ≡ true → has p.handed i ≡ true

-- a ticket was given up, or all of its section was handed out
abbrev pub IsEnded : PartState → Type 0
IsEnded p = (p.gave_up ≡ true) ⊎ IsAllHanded p

-- whether a number neither came back nor was given up
abbrev pub is_open : PartState → ℕ → Bool
is_open p i = not (has p.returned i || has p.given i)

-- a number that is out: handed out, and it neither came back nor was given up
pub record IsOut (p : PartState) (i : ℕ) : Type 0 where
  pub handed : has p.handed i ≡ true
  pub returned : has p.returned i ≡ false
  pub given : has p.given i ≡ false

-- each of these numbers is
abbrev pub AreOut : PartState → List ℕ → Type 0
AreOut p is = (i : ℕ) → has is i ≡ true → IsOut p i

-- nothing was handed out, nothing came back, no ticket was given up, and the groups stand for no row
pub record IsOpening (j : JobShape) (m s k : ℕ) (p : PartState) : Type 0 where
  pub job : AreOneJob p.job j
  pub size : p.size ≡ m
  pub section : p.section ≡ s
  pub sections : p.sections ≡ k
  pub handed : p.handed ≡ []
  pub returned : p.returned ≡ []
  pub given : p.given ≡ []
  pub gave_up : p.gave_up ≡ false
  pub one_job : AreOneJob p.groups.job p.job
  pub stands : Stands p.groups []

-- ---- events

-- ys are the numbers xs and i
pub record IsWith (i : ℕ) (xs ys : List ℕ) : Type 0 where
  pub here : has ys i ≡ true
  pub others : (k : ℕ) → (k ≡ i → ⊥) → has ys k ≡ has xs k

-- ys are the numbers xs without i
pub record IsWithout (i : ℕ) (xs ys : List ℕ) : Type 0 where
  pub gone : has ys i ≡ false
  pub others : (k : ℕ) → (k ≡ i → ⊥) → has ys k ≡ has xs k

-- the least number of the section that was not handed out is handed out, where no ticket was given up
pub record Hands (i : ℕ) (p q : PartState) : Type 0 where
  pub going : p.gave_up ≡ false
  pub member : has (ours p) i ≡ true
  pub fresh : has p.handed i ≡ false
  pub least : (j : ℕ) → has (ours p) j ≡ true → has p.handed j ≡ false → i ≤ j
  pub after : q ≡ record p { handed = p.handed ++ i ∷ [] }

-- a sweep hands out to its caller all of the section that was not, also where a ticket was given up
pub record HandsAll (p q : PartState) : Type 0 where
  pub kept : (i : ℕ) → has p.handed i ≡ true → has (ours p) i ≡ true
  pub after : q ≡ record p { handed = ours p }

-- a number that was handed out and had not come back comes back, with the groups over its morsel; where it was given up, it no longer is
pub record Returns (i : ℕ) (p q : PartState) : Type 0 where
  pub handed : has p.handed i ≡ true
  pub fresh : has p.returned i ≡ false
  pub returned : IsPermutation (p.returned ++ i ∷ []) q.returned
  pub given : IsWithout i p.given q.given
  pub job : AreOneJob q.groups.job q.job
  pub stands : Stands q.groups (seen_in q.job q.size q.returned)
  pub after : q ≡ record p { returned = q.returned; given = q.given; groups = q.groups }

-- a number that was handed out and had not come back is given up
pub record Gives (i : ℕ) (p q : PartState) : Type 0 where
  pub handed : has p.handed i ≡ true
  pub fresh : has p.returned i ≡ false
  pub given : IsWith i p.given q.given
  pub after : q ≡ record p { given = q.given; gave_up = true }

-- a ticket of another part, or one that came back, is given up
abbrev pub Refuses : PartState → PartState → Type 0
Refuses p q = q ≡ record p { gave_up = true }

-- x is the same part as y, at that time or later: no number that was handed out or came back is lost, and a ticket that was given up stays so
pub record Follows (x y : PartState) : Type 0 where
  pub job : x.job ≡ y.job
  pub size : x.size ≡ y.size
  pub section : x.section ≡ y.section
  pub sections : x.sections ≡ y.sections
  pub handed : (i : ℕ) → has y.handed i ≡ true → has x.handed i ≡ true
  pub returned : (i : ℕ) → has y.returned i ≡ true → has x.returned i ≡ true
  pub gave_up : y.gave_up ≡ true → x.gave_up ≡ true

-- q is a later state of p, and no ticket was given up meanwhile
pub record Grows (p q : PartState) : Type 0 where
  pub follows : Follows q p
  pub gave_up : q.gave_up ≡ p.gave_up

-- the numbers that were handed out between two states
abbrev pub handed_between : PartState → PartState → List ℕ
handed_between old new = filter (λ i. not (has old.handed i)) new.handed

-- ---- core runs

pub data Event : Type 0 where
  hand : ℕ → Event
  hand_all : Event
  back : ℕ → Event
  give : ℕ → Event
  refuse : Event

abbrev pub Happens : Event → PartState → PartState → Type 0
Happens (hand i) p q = Hands i p q
Happens hand_all p q = HandsAll p q
Happens (back i) p q = Returns i p q
Happens (give i) p q = Gives i p q
Happens refuse p q = Refuses p q

-- what a list of events leads to
abbrev pub Runs : List Event → PartState → PartState → Type 0
Runs [] p q = q ≡ p
Runs (e ∷ es) p q = (m : PartState) × Happens e p m × Runs es m q

-- a core run leads from p to q
pub record Ran (p q : PartState) : Type 0 where
  pub events : List Event
  pub runs : Runs events p q

-- a core run leads to p from an opening part
pub record IsReached (p : PartState) : Type 0 where
  pub opening : PartState
  pub empty : IsOpening p.job p.size p.section p.sections opening
  pub ran : Ran opening p

-- ---- calls

-- whether a ticket is for a morsel that the part handed out
abbrev pub is_handed_out : PartState → TicketState → Bool
is_handed_out p t = nat_eq t.size p.size && has p.handed t.morsel

-- whether it is for one that also did not come back
abbrev pub is_awaited : PartState → TicketState → Bool
is_awaited p t = is_handed_out p t && not (has p.returned t.morsel)

-- all of some tickets are for morsels that were handed out
abbrev pub AreHandedOut : PartState → List TicketState → Type 0
AreHandedOut p ts = list_all (is_handed_out p) ts ≡ true

-- of such tickets, whether the morsel of some came back
pub record HaveComeBack (b : Bool) (p : PartState) (ts : List TicketState) : Type 0 where
  pub handed : AreHandedOut p ts
  pub back : list_any (λ t. has p.returned t.morsel) ts ≡ b

-- the ticket that a part gives for a morsel
abbrev pub ticket_of : PartState → ℕ → TicketState
ticket_of p i = record { job = p.job; size = p.size; section = p.section; sections = p.sections; morsel = i }

-- a ticket of the next morsel
pub record HandsNext (t : TicketState) (p q : PartState) : Type 0 where
  pub hands : Hands t.morsel p q
  pub ticket : t ≡ ticket_of p t.morsel

-- no ticket: all is handed out, or a ticket was given up
pub record HandsNone (p q : PartState) : Type 0 where
  pub same : q ≡ p
  pub ended : IsEnded p

-- what handing out answers
abbrev pub HandsOut : PartState → Option TicketState → PartState → Type 0
HandsOut p None q = HandsNone p q
HandsOut p (Some t) q = HandsNext t p q

-- a partial is taken: the morsels of its tickets come back, one after the other, and all else is as before
pub record IsTaken (x : PartialState) (p q : PartState) : Type 0 where
  pub handed : AreHandedOut p x.tickets
  pub returns : Runs (map back (morsels_of x.tickets)) p q
  pub after : q ≡ record p { returned = q.returned; given = q.given; groups = q.groups }

-- a partial is refused, for a reason: the part is as before, and the partial comes back
pub record IsRefused (Reason : Type 0) (x y : PartialState) (p q : PartState) : Type 0 where
  pub reason : Reason
  pub partial : y ≡ x
  pub same : q ≡ p

-- what giving back answers, exactly where: the partial is refused where the part did not hand out all of its tickets, else where the morsel of one came back before; else it is taken whole, or memory is refused
abbrev pub GivesBack : PartState → PartialState → Result ⊤ ReturnFault → PartState → Type 0
GivesBack p x (Ok u) q = IsTaken x p q
GivesBack p x (Err (fault.NotHandedOut y)) q = IsRefused (list_all (is_handed_out p) x.tickets ≡ false) x y p q
GivesBack p x (Err (fault.Doubled y)) q = IsRefused (HaveComeBack true p x.tickets) x y p q
GivesBack p x (Err (fault.Memory y)) q = IsRefused (HaveComeBack false p x.tickets) x y p q

-- taken, or refused for want of memory alone
abbrev pub IsUnrefused : Result ⊤ ReturnFault → Type 0
IsUnrefused (Ok u) = ⊤
IsUnrefused (Err (fault.NotHandedOut y)) = ⊥
IsUnrefused (Err (fault.Doubled y)) = ⊥
IsUnrefused (Err (fault.Memory y)) = ⊤

-- a ticket of the part's job and of its size of a morsel
pub record IsTicketOf (p : PartState) (t : TicketState) : Type 0 where
  pub job : AreOneJob t.job p.job
  pub size : t.size ≡ p.size

-- it is for a morsel that is out
pub record IsOutIn (p : PartState) (t : TicketState) : Type 0 where
  pub of : IsTicketOf p t
  pub out : IsOut p t.morsel

-- what giving a ticket up does: its number is given up where the part awaits it, and else the refusal alone is recorded
pub record GivesUp (t : TicketState) (p q : PartState) : Type 0 where
  pub awaited : is_awaited p t ≡ true → Gives t.morsel p q
  pub strange : is_awaited p t ≡ false → Refuses p q

-- ---- laws

-- a core run keeps a part lawful
abbrev pub RunsStayLawful : Type 0
RunsStayLawful = (p q : PartState) → IsLawfulPart p → Ran p q → IsLawfulPart q

-- it loses nothing
abbrev pub RunsLoseNothing : Type 0
RunsLoseNothing = (p q : PartState) → Ran p q → Follows q p

-- where all of its section came back, a lawful part's groups stand for the kept combinations of the whole section
abbrev pub WholeSectionsStand : Type 0
WholeSectionsStand = (p : PartState) → IsLawfulPart p → IsWhole p → Stands p.groups (seen_in p.job p.size (ours p))

-- a part that comes of an opening one by a core run, any number that is out coming back at any turn, is lawful
abbrev pub EveryRunIsLawful : Type 0
EveryRunIsLawful = (j : JobShape) (m s k : ℕ) (opening p : PartState) → IsOpening j m s k opening → Ran opening p → IsLawfulPart p

-- a part's groups stand for the kept combinations of a whole section
abbrev pub StandsForSection : JobShape → ℕ → ℕ → ℕ → PartState → Type 0
StandsForSection j m s k p = Stands p.groups (seen_in j m (section (morsel_count (fact_rows j) m) k s))

-- where all of its section came back, its groups stand for the kept combinations of the whole section
abbrev pub EveryRunStands : Type 0
EveryRunStands = (j : JobShape) (m s k : ℕ) (opening p : PartState) → IsOpening j m s k opening → Ran opening p → IsWhole p → StandsForSection j m s k p

-- where the one section of a lawful part came back, its groups stand for all that WHERE keeps
abbrev pub OneSectionIsAll : Type 0
OneSectionIsAll = (p : PartState) → IsLawfulPart p → IsWhole p → p.section ≡ 0 → p.sections ≡ 1 → 0 < p.size → p.job.query.fact < length p.job.query.from → Stands p.groups (map (seen p.job) (kept p.job))
