-- A later state of the same part.
use Rattle.std.proofs.Common.{◌≡◌, ◌∙◌, ◌++◌, ◌∷◌, [], ℕ, Bool, true, List, nat_eq, refl, sym, subst, arith}
use Rattle.std.proofs.lemmas.List.Sorted.{list_any-IsPermutation}
use Rattle.ssb_groups.specs.Stands.{GroupMap}
use Rattle.ssb_pipeline.specs.Part.{Follows, Gives, Grows, Hands, HandsAll, PartState, Refuses, Returns, has, ours}
use Rattle.ssb_pipeline.proofs.RangeFacts.{range-has}
use Rattle.ssb_pipeline.proofs.SetFacts.{has-left, has-right}

pub follows_self : (x : PartState) → Follows x x
follows_self x = record { job = refl; size = refl; section = refl; sections = refl; handed = λ i h. h; returned = λ i h. h; gave_up = λ h. h }

pub follows_after : (x y z : PartState) → Follows x y → Follows y z → Follows x z
follows_after x y z a b = record {
  job = a.job ∙ b.job;
  size = a.size ∙ b.size;
  section = a.section ∙ b.section;
  sections = a.sections ∙ b.sections;
  handed = λ i h. a.handed i (b.handed i h);
  returned = λ i h. a.returned i (b.returned i h);
  gave_up = λ h. a.gave_up (b.gave_up h);
}

-- the part with other numbers, of which none is lost
changed : (x q : PartState) (handed returned given : List ℕ) (gave_up : Bool) (groups : GroupMap) → q ≡ record x { handed = handed; returned = returned; given = given; gave_up = gave_up; groups = groups }
    → ((i : ℕ) → has x.handed i ≡ true → has handed i ≡ true) → ((i : ℕ) → has x.returned i ≡ true → has returned i ≡ true) → (x.gave_up ≡ true → gave_up ≡ true) → Follows q x
changed x q handed returned given gave_up groups e a b c = subst (λ (y : PartState). Follows y x) (sym e) (record { job = refl; size = refl; section = refl; sections = refl; handed = a; returned = b; gave_up = c })

-- ---- each event

pub hand-follows : (i : ℕ) (x q : PartState) → Hands i x q → Follows q x
hand-follows i x q h = changed x q (x.handed ++ i ∷ []) x.returned x.given x.gave_up x.groups h.after (has-left x.handed (i ∷ [])) (λ k there. there) (λ g. g)

came : (i : ℕ) (x q : PartState) → Returns i x q → (k : ℕ) → has (x.returned ++ i ∷ []) k ≡ true → has q.returned k ≡ true
came i x q r k there = sym (list_any-IsPermutation (nat_eq k) (x.returned ++ i ∷ []) q.returned r.returned) ∙ there

pub back-follows : (i : ℕ) (x q : PartState) → Returns i x q → Follows q x
back-follows i x q r = changed x q x.handed q.returned q.given x.gave_up q.groups r.after (λ k there. there) (λ k there. came i x q r k (has-left x.returned (i ∷ []) k there)) (λ g. g)

-- the number is back then
pub is-back : (i : ℕ) (x q : PartState) → Returns i x q → has q.returned i ≡ true
is-back i x q r = came i x q r i (has-right x.returned (i ∷ []) i (range-has i 1 i (omega arith) (omega arith)))

pub give-follows : (i : ℕ) (x q : PartState) → Gives i x q → Follows q x
give-follows i x q g = changed x q x.handed x.returned q.given true x.groups g.after (λ k there. there) (λ k there. there) (λ g. refl)

pub refuse-follows : (x q : PartState) → Refuses x q → Follows q x
refuse-follows x q e = changed x q x.handed x.returned x.given true x.groups e (λ k there. there) (λ k there. there) (λ g. refl)

-- all of the section is handed out at once
pub sweep-follows : (x q : PartState) → HandsAll x q → Follows q x
sweep-follows x q h = changed x q (ours x) x.returned x.given x.gave_up x.groups h.after h.kept (λ k there. there) (λ g. g)

-- ---- where no ticket is given up meanwhile

pub grows_self : (x : PartState) → Grows x x
grows_self x = record { follows = follows_self x; gave_up = refl }

pub grows-more : (x y z : PartState) → Grows x y → Follows z y → z.gave_up ≡ y.gave_up → Grows x z
grows-more x y z g f same = record { follows = follows_after z y x f g.follows; gave_up = same ∙ g.gave_up }
