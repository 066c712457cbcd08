-- The groups over some morsels.
use Rattle.std.proofs.Common.{◌≡◌, ◌∙◌, ◌++◌, ◌∷◌, [], ◌||◌, ◌+◌, ◌≤◌, ◌<◌, ℕ, Bool, true, false, true≢false, nat_eq, List, None, get_or, length, map, refl, sym, ap, subst, arith, length-append}
use Rattle.std.specs.List.{All, IsDistinct, range_with_len}
use Rattle.std.proofs.lemmas.List.{append-nil}
use Rattle.std.proofs.lemmas.List.Elements.{All-head}
use Rattle.std.proofs.lemmas.Bool.{eqb-true}
use Rattle.ssb_job.specs.Kept.{AreOneJob, fact_rows, joined}
use Rattle.ssb_plan.specs.JobShape.{JobShape}
use Rattle.ssb_groups.specs.Seen.{seen}
use Rattle.ssb_groups.specs.Stands.{GroupMap, Stands}
use Rattle.ssb_pipeline.specs.Joined.{morsel_rows, seen_in}
use Rattle.ssb_pipeline.specs.Morsels.{morsel}
use Rattle.ssb_pipeline.specs.Part.{has}
use Rattle.ssb_pipeline.specs.Probed.{Adds}
use Rattle.ssb_pipeline.specs.State.{AreOver, IsOfTickets}
use Rattle.ssb_pipeline.specs.Tickets.{TicketState, batch_fault, morsels_of}
use Rattle.ssb_pipeline.proofs.BatchFacts.{some-none}
use Rattle.ssb_pipeline.proofs.FinishFacts.{few-rows}
use Rattle.ssb_pipeline.proofs.JoinedFacts.{rows-append, rows-cons, seen-append, seen-none}
use Rattle.ssb_pipeline.proofs.RangeFacts.{range-has}
use Rattle.ssb_pipeline.proofs.SetFacts.{no-more-of}

module _ (j : JobShape) (size : ℕ) where
  -- a number above all of these
  above : List ℕ → ℕ
  above [] = 0
  above (i ∷ is) = i + 1 + above is

  is-below : (is : List ℕ) (i : ℕ) → has is i ≡ true → i < above is
  unfolding above
  is-below [] i h = absurd (true≢false (sym h))
  is-below (x ∷ is) i h = by (nat_eq i x) refl h (is-below is i)
    where
      by : (b : Bool) → nat_eq i x ≡ b → (b || has is i) ≡ true → (has is i ≡ true → i < above is) → i < x + 1 + above is
      by true e r rest = let same = eqb-true i x e in omega (arith, same)
      by false e r rest = let less = rest r in omega (arith, less)

  -- different morsels have no more rows than the fact table
  pub few-of : (is : List ℕ) → IsDistinct nat_eq is → length (morsel_rows j size is) ≤ fact_rows j
  few-of is d =
      let n = above is in
      let a = no-more-of (morsel_rows j size) refl (rows-cons j size) is (range_with_len 0 n) d (λ i h. let less = is-below is i h in range-has 0 n i (omega arith) (omega (arith, less))) in
      let b = few-rows j size n in
      omega (arith, a, b)

  -- groups over no morsel, and over one more
  pub over-none : (g : GroupMap) → Stands g [] → AreOneJob g.job j → g.counted ≡ 0 → AreOver j size [] g
  over-none g stands job counted = record { job = job; stands = subst (Stands g) (sym (seen-none j size)) stands; few = omega (arith, counted) }

  one-morsel : (i : ℕ) → morsel_rows j size (i ∷ []) ≡ morsel (fact_rows j) size i
  one-morsel i = append-nil (morsel (fact_rows j) size i)

  module _ (is : List ℕ) (i : ℕ) (g : GroupMap) (over : AreOver j size is g) where
    pub over-more : (h : GroupMap) → Adds j (morsel (fact_rows j) size i) g h → AreOver j size (is ++ i ∷ []) h
    over-more h adds = record {
      job = adds.job ∙ over.job;
      stands =
          let rows : seen_in j size is ++ map (seen j) (joined j (morsel (fact_rows j) size i)) ≡ seen_in j size (is ++ i ∷ []) =
          ap (λ rs. seen_in j size is ++ map (seen j) (joined j rs)) (sym (one-morsel i)) ∙ sym (seen-append j size is (i ∷ [])) in
          subst (Stands h) rows (adds.stands (seen_in j size is) over.stands);
      few = let f = over.few in let a = adds.few in let e = ap length (rows-append j size is (i ∷ [])) ∙ length-append (morsel_rows j size is) (morsel_rows j size (i ∷ [])) in let o = ap length (one-morsel i) in omega (arith, f, a, e, o);
    }

    -- there is room for its rows
    pub room-more : IsDistinct nat_eq (is ++ i ∷ []) → g.counted + length (morsel (fact_rows j) size i) ≤ fact_rows j
    room-more d =
        let f = over.few in
        let most = few-of (is ++ i ∷ []) d in
        let e = ap length (rows-append j size is (i ∷ [])) ∙ length-append (morsel_rows j size is) (morsel_rows j size (i ∷ [])) in
        let o = ap length (one-morsel i) in
        omega (arith, f, most, e, o)

-- a batch of a job's tickets, and the groups over its morsels
pub of-tickets : (ts : List TicketState) (t : TicketState) (j : JobShape) (g : GroupMap) → batch_fault ts ≡ None → t ≡ get_or ts 0 t → All (λ u. AreOneJob u.job j) ts → AreOver j t.size (morsels_of ts) g → IsOfTickets (record { tickets = ts; groups = g })
of-tickets [] t j g batch is one over = absurd (some-none _ batch)
of-tickets (u ∷ us) t j g batch is one over =
    let same : u.job ≡ j = All-head (λ v. AreOneJob v.job j) u us one in
    record {
      first = u;
      rest = us;
      are = refl;
      batch = batch;
      one_job = subst (λ k. All (λ v. AreOneJob v.job k) (u ∷ us)) (sym same) one;
      over = subst (λ k. AreOver k u.size (morsels_of (u ∷ us)) g) (sym same) (subst (λ v. AreOver j v.size (morsels_of (u ∷ us)) g) is over);
    }
