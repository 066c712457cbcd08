-- What the rule of the queue comes to where a part lies in it, and whose rows are whose.
use Rattle.std.proofs.Common.{◌≡◌, ◌∙◌, ◌∷◌, [], ◌≤◌, ◌<◌, ◌+◌, ◌-◌, ℕ, zero, suc, true, true≢false, List, inl, inr, sym, ap, subst, arith}
use mathlib.Core.Option.{some, some-injective, some-ne-none}
use lib.ListN.{get_elem?}
use Rattle.std.specs.List.{flat_map}
use Rattle.ssb_job.specs.Kept.{fact_rows}
use Rattle.ssb_pipeline.specs.Free.{FreeParts, IsFreePart, MorselsShareNoRow, SectionsShareNoRow}
use Rattle.ssb_pipeline.specs.Morsels.{LiesIn, morsel, morsel_count, morsel_cut, piece, row_cut, section}
use Rattle.ssb_pipeline.specs.Part.{AreOut, IsLawfulPart, IsReached, PartState, Ran, has}
use Rattle.ssb_pipeline.specs.Rule.{IsFree, Knows}
use Rattle.ssb_pipeline.proofs.Cuts.{only-piece}
use Rattle.ssb_pipeline.proofs.MorselFacts.{morsel-begins, morsel-rises, row-begins, row-rises}
use Rattle.ssb_pipeline.proofs.Numbers.{head-has, tail-has}
use Rattle.ssb_pipeline.proofs.RangeFacts.{within-range}
use Rattle.ssb_pipeline.proofs.SetFacts.{has-either}

-- ---- a part that lies in the queue

only-item : (x y : PartState) (i : ℕ) → get_elem? (x ∷ []) i ≡ some y → x ≡ y
only-item x y zero h = some-injective x y h
only-item x y (suc i) h = absurd (some-ne-none y (sym h))

no-item : (items : List PartState) (i : ℕ) (x : PartState) → items ≡ [] → get_elem? items i ≡ some x → {A : Type 0} → A
no-item items i x none at = absurd (some-ne-none x (sym (ap (λ l. get_elem? l i) (sym none) ∙ at)))

free-at : (items : List PartState) (views : List Knows) (part : PartState) (f : IsFree items views) → f.part ≡ part → IsFreePart items views part
free-at items views part f is =
    let law : IsLawfulPart part = subst IsLawfulPart is f.lawful in
    record {
      alone = f.only ∙ ap (λ x. x ∷ []) is;
      unheld = λ pass v at. (f.passes pass v at).none;
      lawful = law;
      reached = subst IsReached is f.reached;
      handed = record { among = law.within; once = law.handed };
      returned = record { among = law.among; once = law.returned };
      groups = law.stands;
      later = λ pass v at. subst (Ran v.seen) is (f.passes pass v at).serves.ran;
      due = λ pass v at. subst (λ x. AreOut x v.due) is (f.passes pass v at).serves.due;
      apart = f.apart;
    }

pub free : FreeParts
free items views place part (inl n) at = no-item items place part n.0 at
free items views place part (inr (inl f)) at = free-at items views part f (only-item f.part part place (ap (λ l. get_elem? l place) (sym f.only) ∙ at))
free items views place part (inr (inr o)) at = no-item items place part o.empty at

-- ---- rows

-- where a member of joined lists lies
record IsAmong (f : ℕ → List ℕ) (is : List ℕ) (x : ℕ) : Type 0 where
  pub which : ℕ
  pub there : has is which ≡ true
  pub here : has (f which) x ≡ true

among : (f : ℕ → List ℕ) (is : List ℕ) (x : ℕ) → has (flat_map f is) x ≡ true → IsAmong f is x
among f [] x h = absurd (true≢false (sym h))
among f (i ∷ is) x h = elim (has-either (f i) (flat_map f is) x h) [
  | inl first ↦ record { which = i; there = head-has i is; here = first }
  | inr rest ↦ let r = among f is x rest in record { which = r.which; there = tail-has i is r.which r.there; here = r.here }
]

lies : (cut : ℕ → ℕ) (i x : ℕ) → cut i ≤ cut (i + 1) → has (piece cut i) x ≡ true → LiesIn cut x i
lies cut i x up h =
    let w = within-range (cut i) (cut (i + 1) - cut i) x h in
    (w.0, below (cut i) (cut (i + 1)) x up w.1)
  where
    below : (a b x : ℕ) → a ≤ b → x < a + (b - a) → x < b
    below a b x up l = omega (arith, up, l)

pub morsels-apart : MorselsShareNoRow
morsels-apart rows size row a b in_a in_b = only-piece (row_cut rows size) (row-begins rows size) (row-rises rows size) a b row (lies (row_cut rows size) a row (row-rises rows size a) in_a) (lies (row_cut rows size) b row (row-rises rows size b) in_b)

pub sections-apart : SectionsShareNoRow
sections-apart j size sections row s t below_s below_t in_s in_t =
    let pos : 0 < sections = omega (arith, below_s) in
    let many : ℕ = morsel_count (fact_rows j) size in
    let a = among (morsel (fact_rows j) size) (section many sections s) row in_s in
    let b = among (morsel (fact_rows j) size) (section many sections t) row in_t in
    let same : b.which ≡ a.which = morsels-apart (fact_rows j) size row b.which a.which b.here a.here in
    only-piece (morsel_cut many sections) (morsel-begins many sections pos) (λ k. morsel-rises many sections k pos) s t a.which (lies (morsel_cut many sections) s a.which (morsel-rises many sections s pos) a.there)
    (subst (λ i. LiesIn (morsel_cut many sections) i t) same (lies (morsel_cut many sections) t b.which (morsel-rises many sections t pos) b.there))
