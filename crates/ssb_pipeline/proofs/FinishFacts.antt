-- Groups over sections, one after the other.
use Rattle.std.proofs.Common.{◌≡◌, ◌≢◌, ◌∙◌, ◌++◌, ◌≤◌, ◌<◌, ◌+◌, ◌-◌, ◌^◌, inl, inr, true, false, ℕ, List, length, map, refl, sym, ap, subst, arith, length-append}
use Rattle.std.specs.List.{range_with_len}
use Rattle.std.proofs.lemmas.Bool.{cases_lt, false_from_ne_true}
use Rattle.std.proofs.lemmas.List.{get_or-set_other}
use Rattle.std.proofs.lemmas.List.FromFn.{length-range_with_len}
use Rattle.std.proofs.lemmas.List.Sorted.{IsPermutation-map, IsPermutation-sym, length_permutation}
use Rattle.ssb_plan.specs.JobShape.{JobShape}
use Rattle.ssb_job.specs.Kept.{fact_rows, kept}
use Rattle.ssb_job.proofs.Whole as all_kept
use Rattle.ssb_groups.specs.Seen.{seen}
use Rattle.ssb_groups.specs.Stands.{GroupMap, Stands}
use Rattle.ssb_groups.proofs.Permuted.{any_order}
use Rattle.ssb_pipeline.specs.Finish.{HasTaken, HasTakenAll, IsMerged, section_of}
use Rattle.ssb_pipeline.specs.Joined.{morsel_rows, seen_in}
use Rattle.ssb_pipeline.specs.Morsels.{morsel_count, morsel_cut, row_cut, section}
use Rattle.ssb_pipeline.specs.Part.{Grows, IsLawfulPart, IsWhole, PartState, ours}
use Rattle.ssb_pipeline.specs.Pass.{IsPassOfParts, PartsState, PassState, known}
use Rattle.ssb_pipeline.specs.Rule.{Knows, fresh}
use Rattle.ssb_pipeline.specs.State.{AreOver}
use Rattle.ssb_pipeline.specs.Work.{OnlyIn}
use Rattle.ssb_pipeline.proofs.Cuts.{all-pieces, range-append}
use Rattle.ssb_pipeline.proofs.EveryRun.{all-rows}
use Rattle.ssb_pipeline.proofs.JoinedFacts.{rows-append, rows-cons, seen-append}
use Rattle.ssb_pipeline.proofs.MorselFacts.{morsel-begins, morsel-end, morsel-rises, row-begins, row-rises}
use Rattle.ssb_pipeline.proofs.RangeFacts.{distinct-range}
use Rattle.ssb_pipeline.proofs.RunFacts.{whole}
use Rattle.ssb_pipeline.proofs.SetFacts.{same-set}

-- the groups of a part all of whose section came back
pub of-whole : (p : PartState) → IsLawfulPart p → IsWhole p → p.groups.counted ≤ length (morsel_rows p.job p.size p.returned) → AreOver p.job p.size (ours p) p.groups
of-whole p l all few =
    let same = same-set (morsel_rows p.job p.size) refl (rows-cons p.job p.size) p.returned (ours p) l.returned (distinct-range _ _) (λ i h. l.within i (l.among i h)) all in
    record { job = l.job; stands = whole p l all; few = subst (λ n. p.groups.counted ≤ n) (sym (length_permutation _ _ same)) few }

-- the groups of a part that grew so
pub of-grown : (p q : PartState) (g : GroupMap) → Grows p q → IsLawfulPart q → IsWhole q → g ≡ q.groups → g.counted ≤ length (morsel_rows q.job q.size q.returned) → AreOver p.job p.size (ours p) g
of-grown p q g grows lawful all is few =
    let over : AreOver q.job q.size (ours q) g = subst (AreOver q.job q.size (ours q)) (sym is) (of-whole q lawful all (subst (λ (h : GroupMap). h.counted ≤ length (morsel_rows q.job q.size q.returned)) is few)) in
    let f = grows.follows in rw (f.job, f.size, f.section, f.sections) at over

module _ (j : JobShape) (size : ℕ) where
  -- the first so many morsels have no more rows than the fact table
  pub few-rows : (n : ℕ) → length (morsel_rows j size (range_with_len 0 n)) ≤ fact_rows j
  few-rows n =
      let rows = fact_rows j in
      let many : length (morsel_rows j size (range_with_len 0 n)) ≡ row_cut rows size n =
      ap length (all-pieces (row_cut rows size) (row-begins rows size) (row-rises rows size) n) ∙ length-range_with_len 0 (row_cut rows size n) in
      omega (arith, many)

  module _ (a b : ℕ) (order : a ≤ b) where
    both-ranges : range_with_len 0 b ≡ range_with_len 0 a ++ range_with_len a (b - a)
    both-ranges = sym (range-append 0 a (b - a) a b (omega arith) (omega (arith, order)))

    both-rows : length (morsel_rows j size (range_with_len 0 b)) ≡ length (morsel_rows j size (range_with_len 0 a)) + length (morsel_rows j size (range_with_len a (b - a)))
    both-rows = ap length (ap (morsel_rows j size) both-ranges ∙ rows-append j size (range_with_len 0 a) (range_with_len a (b - a))) ∙ length-append (morsel_rows j size (range_with_len 0 a)) _

    -- groups over some first morsels and groups over the next count no more rows than the fact table has
    pub fits : (g h : GroupMap) → AreOver j size (range_with_len 0 a) g → AreOver j size (range_with_len a (b - a)) h → fact_rows j < 2 ^ 32 → g.counted + h.counted < 2 ^ 32
    fits g h over next bound =
        let most = few-rows b in
        let e = both-rows in
        let f = over.few in
        let k = next.few in
        omega (arith, most, e, f, k, bound)

    -- merged, they are over all of these
    pub merged : (g h r : GroupMap) → AreOver j size (range_with_len 0 a) g → AreOver j size (range_with_len a (b - a)) h
        → IsMerged g h r → AreOver j size (range_with_len 0 b) r
    merged g h r over next m = record {
      job = m.job ∙ over.job;
      stands = subst (Stands r) (sym (ap (seen_in j size) both-ranges ∙ seen-append j size (range_with_len 0 a) (range_with_len a (b - a)))) (m.stands _ _ over.stands next.stands);
      few = let e = both-rows in let f = over.few in let k = next.few in let c = m.counted in omega (arith, e, f, k, c);
    }

  -- groups over all morsels stand for all that is kept
  pub over-all : (g : GroupMap) → 0 < size → j.query.fact < length j.query.from → AreOver j size (range_with_len 0 (morsel_count (fact_rows j) size)) g → Stands g (map (seen j) (kept j))
  over-all g pos fact over =
      any_order g _ _ (IsPermutation-map (seen j) _ _ (IsPermutation-sym _ _ (all_kept.whole j fact))) (subst (Stands g) (all-rows j size pos) over.stands)

-- ---- sections

abbrev pub first-sections : ℕ → ℕ → ℕ → List ℕ
first-sections n k s = range_with_len 0 (morsel_cut n k s)

pub first-section : (n k : ℕ) → 0 < k → section n k 0 ≡ first-sections n k 1
first-section n k pos =
    let z = morsel-begins n k pos in
    rw z (ap (range_with_len 0) (all-of (morsel_cut n k 1)))
  where
    all-of : (m : ℕ) → m - 0 ≡ m
    all-of m = omega arith

pub all-sections : (n k : ℕ) → 0 < k → first-sections n k k ≡ range_with_len 0 n
all-sections n k pos = ap (range_with_len 0) (morsel-end n k pos)

-- ---- section after section

other-known : (s t : ℕ) (p q : PassState) → OnlyIn t p q → s ≢ t → known q s ≡ known p s
other-known s t p q only apart = ap (λ (x : PassState). known x s) only ∙ get_or-set_other p.views t s (known q t) fresh apart

-- after so many sections: the groups are over those, the pass took the parts of those and knows of the others what it knew, and no ticket of those was given up; after the first
-- they are the groups of its part, where all of it came back
pub record IsFinished (parts : PartsState) (old now : PassState) (s : ℕ) (g : GroupMap) : Type 0 where
  pub pass : IsPassOfParts parts now
  pub over : AreOver parts.job parts.size (first-sections (morsel_count (fact_rows parts.job) parts.size) (length parts.queues) s) g
  pub later : (t : ℕ) → s ≤ t → known now t ≡ known old t
  pub clear : (t : ℕ) → t < s → (known old t).seen.gave_up ≡ true → ⊥
  pub taken : (t : ℕ) → t < s → HasTaken parts t (known old t) (known now t)
  pub kept : (t : ℕ) → t < s → (known now t).seen.gave_up ≡ false
  pub same : s ≡ 1 → IsWhole (known now 0).seen → g ≡ (known now 0).seen.groups

module _ (parts : PartsState) (some : 0 < length parts.queues) where
  abbrev many : ℕ
  many = morsel_count (fact_rows parts.job) parts.size

  pub begun : (p q : PassState) (g : GroupMap) → OnlyIn 0 p q → IsPassOfParts parts q → AreOver parts.job parts.size (section_of parts 0) g → ((known p 0).seen.gave_up ≡ true → ⊥) → HasTaken parts 0 (known p 0) (known q 0) → ((known q 0).seen.gave_up ≡ true → ⊥)
      → (IsWhole (known q 0).seen → g ≡ (known q 0).seen.groups) → IsFinished parts p q 1 g
  begun p q g only pass over clear took kept same = record {
    pass = pass;
    over = subst (λ is. AreOver parts.job parts.size is g) (first-section many (length parts.queues) some) over;
    later = λ t h. other-known t 0 p q only (λ e. omega (arith, h, e));
    clear = λ t h gave. let e : t ≡ 0 = omega (arith, h) in clear (subst (λ n. (known p n).seen.gave_up ≡ true) e gave);
    taken = λ t h. let e : 0 ≡ t = omega (arith, h) in subst (λ n. HasTaken parts n (known p n) (known q n)) e took;
    kept = λ t h. let e : 0 ≡ t = omega (arith, h) in subst (λ n. (known q n).seen.gave_up ≡ false) e (false_from_ne_true (known q 0).seen.gave_up kept);
    same = λ _. same;
  }

  module _ (old p q : PassState) (s : ℕ) (g h : GroupMap) (done : IsFinished parts old p s g) (over : AreOver parts.job parts.size (section_of parts s) h) where
    pub fit : fact_rows parts.job < 2 ^ 32 → g.counted + h.counted < 2 ^ 32
    fit bound = fits parts.job parts.size _ _ (morsel-rises many (length parts.queues) s some) g h done.over over bound

    pub one-more : (r : GroupMap) → IsMerged g h r → 1 ≤ s → OnlyIn s p q → IsPassOfParts parts q → ((known p s).seen.gave_up ≡ true → ⊥) → HasTaken parts s (known p s) (known q s) → ((known q s).seen.gave_up ≡ true → ⊥) → IsFinished parts old q (s + 1) r
    one-more r m first only pass clear took kept = record {
      pass = pass;
      over = merged parts.job parts.size _ _ (morsel-rises many (length parts.queues) s some) g h r done.over over m;
      later = λ t b. other-known t s p q only (λ e. omega (arith, b, e)) ∙ done.later t (omega (arith, b));
      clear = λ t b gave. elim (cases_lt t s) [
        | inl before ↦ done.clear t before gave
        | inr behind ↦ let e : t ≡ s = omega (arith, b, behind) in clear (ap (λ (v : Knows). v.seen.gave_up) (done.later s (omega arith)) ∙ subst (λ n. (known old n).seen.gave_up ≡ true) e gave)
      ];
      taken = λ t b. elim (cases_lt t s) [
        | inl before ↦ subst (HasTaken parts t (known old t)) (sym (other-known t s p q only (λ e. omega (arith, before, e)))) (done.taken t before)
        | inr behind ↦ let e : s ≡ t = omega (arith, b, behind) in subst (λ n. HasTaken parts n (known old n) (known q n)) e (subst (λ v. HasTaken parts s v (known q s)) (done.later s (omega arith)) took)
      ];
      kept = λ t b. elim (cases_lt t s) [
        | inl before ↦ ap (λ (v : Knows). v.seen.gave_up) (other-known t s p q only (λ e. omega (arith, before, e))) ∙ done.kept t before
        | inr behind ↦ let e : s ≡ t = omega (arith, b, behind) in subst (λ n. (known q n).seen.gave_up ≡ false) e (false_from_ne_true (known q s).seen.gave_up kept)
      ];
      same = λ e. absurd (omega (arith, first, e));
    }

  -- what the pass took of the first section stays so while a later one is finished
  pub first-taken : (old p q : PassState) (s : ℕ) (g : GroupMap) → IsFinished parts old p s g → 1 ≤ s → OnlyIn s p q → HasTaken parts 0 (known old 0) (known q 0)
  first-taken old p q s g done first only = subst (HasTaken parts 0 (known old 0)) (sym (other-known 0 s p q only (λ e. omega (arith, first, e)))) (done.taken 0 (omega (arith, first)))

  -- after all sections the pass has taken all parts
  pub all-taken : (p q : PassState) (s : ℕ) (g : GroupMap) → IsFinished parts p q s g → s ≡ length parts.queues → HasTakenAll parts p q
  all-taken p q s g done e = record { taken = λ t h. done.taken t (omega (arith, h, e)); kept = λ t h. done.kept t (omega (arith, h, e)) }

  pub ended : (p q : PassState) (s : ℕ) (g : GroupMap) → IsFinished parts p q s g → s ≡ length parts.queues → AreOver parts.job parts.size (range_with_len 0 many) g
  ended p q s g done e = subst (λ is. AreOver parts.job parts.size is g) (ap (first-sections many (length parts.queues)) e ∙ all-sections many (length parts.queues) some) done.over
