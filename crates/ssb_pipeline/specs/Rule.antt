-- The rule of the queue of one part: what holds of it before and after each step of the passes that use it, whatever others do. `Law`, of src/line.rt, gives
-- it to the queue; the law `free_parts` says what it comes to while the part lies there.
-- Source: own.
use Rattle.std.specs.Prelude.{◌≡◌, ℕ, Bool, true, false, List, [], ◌∷◌, ◌++◌, ◌⊎◌, None}
use mathlib.Core.Option.{some}
use lib.ListN.{get_elem?}
use Rattle.std.specs.List.{filter}
use Rattle.ssb_plan.specs.JobShape.{JobShape}
use Rattle.ssb_pipeline.specs.Part.{AreOut, IsLawfulPart, IsReached, PartState, Ran, handed_between, has, is_open}

-- What a pass knows of a part: whether the queue is in use, whether the pass holds the part, the part at its last take or put, the numbers that were
-- handed out in its holds, and those of them that are due: that neither came back nor were given up in one of its holds. A number that a sweep handed
-- out, and that did not come back, counts as handed out in the hold.
pub record Knows : Type 0 where
  pub opened : Bool
  pub holds : Bool
  pub seen : PartState
  pub mine : List ℕ
  pub due : List ℕ

abbrev pub knows : Bool → PartState → List ℕ → List ℕ → Knows
knows holds seen mine due = record { opened = true; holds = holds; seen = seen; mine = mine; due = due }

-- a job over no table, in place of one before there is a part
abbrev pub no_job : JobShape
no_job = record { query = record { tables = []; from = []; fact = 0; condition = None; groups = []; having = None; aggregates = []; items = []; orders = [] }; tables = [] }

abbrev pub no_part : PartState
no_part = record {
  job = no_job;
  size = 0;
  section = 0;
  sections = 0;
  handed = [];
  returned = [];
  given = [];
  gave_up = false;
  groups = record { job = no_job; entries = []; overflow = None; counted = 0 };
}

-- the first pass of a queue, before a part was put
abbrev pub fresh : Knows
fresh = record { opened = false; holds = true; seen = no_part; mine = []; due = [] }

-- a pass that has seen as much as v and handed out nothing
abbrev pub newcomer : Knows → Knows
newcomer v = knows false v.seen [] []

-- the pass that put x
abbrev pub putter : Knows → PartState → Knows
putter v x = knows false x (v.mine ++ handed_between v.seen x) (filter (is_open x) (v.due ++ handed_between v.seen x))

-- the pass that took x
abbrev pub taker : Knows → PartState → Knows
taker v x = knows true x v.mine v.due

-- the number is due to the pass, or was handed out in this hold
abbrev pub IsOwn : Knows → ℕ → Type 0
IsOwn v i = (has v.due i ≡ true) ⊎ (has v.seen.handed i ≡ false)

-- what came back or was given up in the hold that ends with x is the pass's own
pub record BringsOwn (v : Knows) (x : PartState) : Type 0 where
  pub returned : (i : ℕ) → has x.returned i ≡ true → has v.seen.returned i ≡ false → IsOwn v i
  pub given : (i : ℕ) → has x.given i ≡ true → has v.seen.given i ≡ false → IsOwn v i

abbrev pub AllPasses : (ℕ → Knows → Type 0) → List Knows → Type 0
AllPasses F views = (pass : ℕ) (v : Knows) → get_elem? views pass ≡ some v → F pass v

-- no number is due to two passes
abbrev pub AreApart : List Knows → Type 0
AreApart views = (i a b : ℕ) (v w : Knows) → get_elem? views a ≡ some v → get_elem? views b ≡ some w → has v.due i ≡ true → has w.due i ≡ true → a ≡ b

-- a core run leads to the part from what the pass saw, and what is due to the pass is out
pub record Serves (part : PartState) (v : Knows) : Type 0 where
  pub ran : Ran v.seen part
  pub due : AreOut part v.due

-- while the part is free: the pass does not hold it
pub record IsWaiting (part : PartState) (v : Knows) : Type 0 where
  pub none : v.holds ≡ false
  pub serves : Serves part v

-- the queue holds one part, which is lawful and was reached from an opening one, and no pass holds it
pub record IsFree (items : List PartState) (views : List Knows) : Type 0 where
  pub part : PartState
  pub only : items ≡ part ∷ []
  pub lawful : IsLawfulPart part
  pub reached : IsReached part
  pub passes : AllPasses (λ pass v. IsWaiting part v) views
  pub apart : AreApart views

-- while one pass holds what it took: a pass that holds the part is that one, and the rest is said of what was taken
pub record IsBeside (holder : ℕ) (taken : PartState) (pass : ℕ) (v : Knows) : Type 0 where
  pub only : v.holds ≡ true → pass ≡ holder
  pub serves : Serves taken v

-- the queue is empty and one pass holds the part; what it took was lawful and reached from an opening one
pub record IsHeld (items : List PartState) (views : List Knows) : Type 0 where
  pub empty : items ≡ []
  pub holder : ℕ
  pub known : Knows
  pub there : get_elem? views holder ≡ some known
  pub holds : known.holds ≡ true
  pub opened : known.opened ≡ true
  pub lawful : IsLawfulPart known.seen
  pub reached : IsReached known.seen
  pub passes : AllPasses (IsBeside holder known.seen) views
  pub apart : AreApart views

-- or the queue is new
abbrev pub IsNew : List PartState → List Knows → Type 0
IsNew items views = (items ≡ []) × (views ≡ fresh ∷ [])

abbrev pub Ruled : List PartState → List Knows → Type 0
Ruled items views = IsNew items views ⊎ (IsFree items views ⊎ IsHeld items views)
