-- Core runs from an opening part, and the one section of all morsels.
use Rattle.std.proofs.Common.{◌≡◌, ◌∙◌, ◌<◌, ℕ, map, sym, ap, subst, arith}
use Rattle.std.specs.List.{range_with_len}
use Rattle.std.proofs.lemmas.List.{append-nil}
use Rattle.std.proofs.lemmas.List.Sorted.{IsPermutation-map, IsPermutation-sym}
use Rattle.ssb_plan.specs.JobShape.{JobShape}
use Rattle.ssb_job.specs.Kept.{fact_rows, joined}
use Rattle.ssb_job.proofs.Whole as all_kept
use Rattle.ssb_groups.specs.Seen.{seen}
use Rattle.ssb_groups.specs.Stands.{Stands}
use Rattle.ssb_groups.proofs.Permuted.{any_order}
use Rattle.ssb_pipeline.specs.Joined.{seen_in}
use Rattle.ssb_pipeline.specs.Morsels.{morsel_count, morsel_cut, piece, row_cut, section}
use Rattle.ssb_pipeline.specs.Part.{EveryRunIsLawful, EveryRunStands, OneSectionIsAll, ours}
use Rattle.ssb_pipeline.proofs.Cuts.{all-pieces}
use Rattle.ssb_pipeline.proofs.MorselFacts.{morsel-begins, morsel-end, morsel-rises, row-begins, row-end, row-rises}
use Rattle.ssb_pipeline.proofs.RunFacts.{opening-lawful, ran-follows, runs, whole}

pub is-lawful : EveryRunIsLawful
is-lawful j m s k o p begins r = runs o p (opening-lawful j m s k o begins) r

pub stands : EveryRunStands
stands j m s k o p begins r all =
    let f = ran-follows o p r in
    rw (f.job ∙ begins.job, f.size ∙ begins.size, f.section ∙ begins.section, f.sections ∙ begins.sections) at (whole p (is-lawful j m s k o p begins r) all)

-- ---- one section

all-morsels : (n : ℕ) → section n 1 0 ≡ range_with_len 0 n
all-morsels n =
    let pos : 0 < 1 = omega arith in
    sym (append-nil (piece (morsel_cut n 1) 0)) ∙ all-pieces (morsel_cut n 1) (morsel-begins n 1 pos) (λ s. morsel-rises n 1 s pos) 1 ∙ ap (range_with_len 0) (morsel-end n 1 pos)

pub all-rows : (j : JobShape) (m : ℕ) → 0 < m → seen_in j m (range_with_len 0 (morsel_count (fact_rows j) m)) ≡ map (seen j) (joined j (range_with_len 0 (fact_rows j)))
all-rows j m pos =
    let n = fact_rows j in
    ap (λ rs. map (seen j) (joined j rs)) (all-pieces (row_cut n m) (row-begins n m) (row-rises n m) (morsel_count n m) ∙ ap (range_with_len 0) (row-end n m pos))

pub one-section : OneSectionIsAll
one-section p lawful all s k pos fact =
    let j = p.job in
    let morsels : ours p ≡ range_with_len 0 (morsel_count (fact_rows j) p.size) = rw (s, k) (all-morsels (morsel_count (fact_rows j) p.size)) in
    let rows = ap (seen_in j p.size) morsels ∙ all-rows j p.size pos in
    any_order p.groups _ _ (IsPermutation-map (seen j) _ _ (IsPermutation-sym _ _ (all_kept.whole j fact))) (subst (Stands p.groups) rows (whole p lawful all))
