-- A part of which nothing was handed out.
use Rattle.std.proofs.Common.{◌≡◌, ◌∙◌, ◌∷◌, [], ◌≤◌, ◌<◌, ◌+◌, ◌-◌, ◌*◌, ◌^◌, ℕ, zero, suc, Bool, true, false, true≢false, List, Some, length, refl, sym, ap, subst, arith, length-append}
use Rattle.std.specs.Prelude.{min, slice_get}
use Rattle.std.specs.List.{range_with_len}
use lib.ListN.{replicate}
use Rattle.std.proofs.lemmas.List.FromFn.{length-range_with_len}
use Rattle.ssb_job.specs.Kept.{AreOneJob, fact_rows}
use Rattle.ssb_plan.specs.JobShape.{JobShape}
use Rattle.ssb_groups.specs.Stands.{GroupMap, Stands}
use Rattle.ssb_pipeline.specs.Joined.{morsel_rows, seen_in}
use Rattle.ssb_pipeline.specs.Marks.{IsKept, marked}
use Rattle.ssb_pipeline.specs.Morsels.{morsel, morsel_count, morsel_cut, row_cut}
use Rattle.ssb_pipeline.proofs.JoinedFacts.{seen-none}
use Rattle.ssb_pipeline.proofs.MorselFacts.{morsel-rises, row-rises}

-- no place is marked
pub none-marked : (a : ℕ) (bs : List Bool) → ((i : ℕ) → slice_get bs i ≡ Some true → ⊥) → marked a bs ≡ []
none-marked a [] h = refl
none-marked a (true ∷ bs) h = absurd (h 0 refl)
none-marked a (false ∷ bs) h = none-marked (a + 1) bs (λ i e. h (suc i) e)

-- where every mark is false, none is set
pub free-all : (n : ℕ) (bs : List Bool) → bs ≡ replicate n false → (i : ℕ) → slice_get bs i ≡ Some true → ⊥
free-all n bs e i h = none n i (sym (ap (λ xs. slice_get xs i) e) ∙ h)
  where
    none : (n i : ℕ) → slice_get (replicate n false) i ≡ Some true → ⊥
    none zero i h = cc h
    none (suc n) zero h = let both : true ≡ false = cc in true≢false both
    none (suc n) (suc i) h = none n i h

-- how many rows consecutive morsels have
rows-of : (j : JobShape) (size a n : ℕ) → length (morsel_rows j size (range_with_len a n)) + row_cut (fact_rows j) size a ≡ row_cut (fact_rows j) size (a + n)
rows-of j size a zero = let z : a ≡ a + 0 = omega arith in nothing (row_cut (fact_rows j) size a) (row_cut (fact_rows j) size (a + 0)) (ap (row_cut (fact_rows j) size) z)
  where
    nothing : (x y : ℕ) → x ≡ y → 0 + x ≡ y
    nothing x y e = omega (arith, e)
rows-of j size a (suc n) =
    let rest = rows-of j size (a + 1) n in
    let all = length-append (morsel (fact_rows j) size a) (morsel_rows j size (range_with_len (a + 1) n)) in
    let one = length-range_with_len (row_cut (fact_rows j) size a) (row_cut (fact_rows j) size (a + 1) - row_cut (fact_rows j) size a) in
    let up = row-rises (fact_rows j) size a in
    let next : a + 1 + n ≡ a + suc n = omega arith in
    added (length (morsel_rows j size (a ∷ range_with_len (a + 1) n))) (length (morsel (fact_rows j) size a)) (length (morsel_rows j size (range_with_len (a + 1) n))) (row_cut (fact_rows j) size a) (row_cut (fact_rows j) size (a + 1))
    (row_cut (fact_rows j) size (a + 1 + n)) all one up rest
    ∙ ap (row_cut (fact_rows j) size) next
  where
    added : (all first rest low high end : ℕ) → all ≡ first + rest → first ≡ high - low → low ≤ high → rest + high ≡ end → all + low ≡ end
    added all first rest low high end h f u r = omega (arith, h, f, u, r)

pub rows-fit : (j : JobShape) (size a n : ℕ) → length (morsel_rows j size (range_with_len a n)) ≤ fact_rows j
rows-fit j size a n = fit (length (morsel_rows j size (range_with_len a n))) (row_cut (fact_rows j) size a) (fact_rows j) ((a + n) * size) (rows-of j size a n)
  where
    fit : (all low rows x : ℕ) → all + low ≡ min rows x → all ≤ rows
    fit all low rows x h = omega (arith, h)

-- what the fields of an opening part keep
pub opens : (j : JobShape) (size s k first end : ℕ) (marks : List Bool) (g : GroupMap) → 0 < k → first ≡ morsel_cut (morsel_count (fact_rows j) size) k s → end ≡ morsel_cut (morsel_count (fact_rows j) size) k (s + 1)
    → length marks ≡ end - first → ((i : ℕ) → slice_get marks i ≡ Some true → ⊥) → end < 2 ^ 32 → fact_rows j < 2 ^ 32 → Stands g [] → AreOneJob g.job j → g.counted ≡ 0
    → IsKept j size s k first 0 marks 0 g
opens j size s k first end marks g pos begins ends many free bound rows stands job counted =
    let up = morsel-rises (morsel_count (fact_rows j) size) k s pos in
    let none = none-marked first marks free in
    let last : first + length marks ≡ end = omega (arith, begins, ends, many, up) in
    record {
      many = pos;
      begins = begins;
      ends = last ∙ ends;
      fits = omega arith;
      below = λ i e. absurd (free i e);
      came = sym (ap length none);
      job = job;
      stands = subst (Stands g) (sym (ap (seen_in j size) none ∙ seen-none j size)) stands;
      few = omega (arith, counted);
      bound = omega (arith, last, bound);
      room = let r = rows-fit j size first (length marks) in omega (arith, r, rows);
    }
