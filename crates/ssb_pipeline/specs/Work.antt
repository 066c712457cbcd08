-- What workers leave: the rounds of one pass over the sections.
-- Source: own.
use Rattle.std.specs.Prelude.{◌≡◌, ℕ, ◌<◌, true, List, ◌++◌, ◌⊎◌, length, All}
use Rattle.ssb_pipeline.specs.Part.{Follows, IsEnded, PartState, has}
use Rattle.ssb_pipeline.specs.Pass.{AllSections, HoldsNone, IsPassOfParts, PartsState, PassState, known, knowing}
use Rattle.ssb_pipeline.specs.Rule.{Knows}

-- each of these numbers came back
abbrev pub AllBack : List ℕ → PartState → Type 0
AllBack numbers p = All (λ i. has p.returned i ≡ true) numbers

-- each of these morsels came back, or a ticket was given up
abbrev pub AreSettled : List ℕ → PartState → Type 0
AreSettled is p = (p.gave_up ≡ true) ⊎ AllBack is p

-- w is known after whole rounds from v on: a ticket was seen to be given up, or each number that is new in w came back; and what is due is what was
pub record IsRound (v w : Knows) : Type 0 where
  pub more : List ℕ
  pub mine : w.mine ≡ v.mine ++ more
  pub due : w.due ≡ v.due
  pub follows : Follows w.seen v.seen
  pub back : AreSettled more w.seen

-- a ticket was given up, or all of the section is handed out, as a pass has seen it
abbrev pub IsExhausted : Knows → Type 0
IsExhausted w = IsEnded w.seen

-- only what it knows of this section has changed
abbrev pub OnlyIn : ℕ → PassState → PassState → Type 0
OnlyIn s p q = q ≡ knowing p s (known q s)

-- the section is one of these parts', and the pass is theirs and holds none
pub record IsReady (parts : PartsState) (section : ℕ) (p : PassState) : Type 0 where
  pub there : section < length parts.queues
  pub pass : IsPassOfParts parts p
  pub none : HoldsNone p

-- only what the pass knows of this section has changed; it is one of these parts still, and holds none
pub record StaysReady (parts : PartsState) (section : ℕ) (p q : PassState) : Type 0 where
  pub only : OnlyIn section p q
  pub pass : IsPassOfParts parts q
  pub none : HoldsNone q

-- after the work: a pass of the parts that holds none; what was handed out to it came back, or a ticket was given up there, what is due to it is what was, and each section is exhausted
pub record IsWorked (parts : PartsState) (p q : PassState) : Type 0 where
  pub pass : IsPassOfParts parts q
  pub none : HoldsNone q
  pub rounds : AllSections (λ s w. IsRound (known p s) w) q
  pub ended : AllSections (λ s w. IsExhausted w) q
