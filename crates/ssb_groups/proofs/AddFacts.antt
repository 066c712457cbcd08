-- One row more, as it is gathered.
use Rattle.std.proofs.Common.{◌≡◌, ℕ, zero, suc, ◌+◌, ◌<◌, List, [], ◌∷◌, length, map, Some, refl, ap, subst, arith}
use Rattle.std.specs.Prelude.{slice_get, unwrap_or}
use Rattle.std.proofs.lemmas.List.{length-map}
use Rattle.std.proofs.lemmas.List.Quantifiers.{position-Some}
use Rattle.std.proofs.lemmas.Option.{same_Some}
use Rattle.ssb_query.specs.Star.{IsStar}
use Rattle.ssb_query.specs.Tables.{is_fact_table}
use Rattle.ssb_query.specs.declared.column.BoundColumn.{BoundColumn}
use Rattle.ssb_trees.specs.declared.aggregate.Aggregate.{Aggregate}
use Rattle.ssb_cells.specs.Tables.{rows_in, Columns}
use Rattle.ssb_conditions.specs.Rows.{IsCombination}
use Rattle.ssb_plan.specs.JobShape.{JobShape, from_tables}
use Rattle.ssb_job.specs.Kept.{rows_of}
use Rattle.ssb_job.proofs.Found.{length-combination}
use Rattle.ssb_groups.specs.Aggregates.{agg, totals, totals_from}

-- ---- the totals of one row are those over its arguments alone

-- ---- a combination's row numbers

pub fact_there : (j : JobShape) (rows : List ℕ) → IsStar j.query → IsCombination (from_tables j) rows → j.query.fact < length rows
fact_there j rows star c =
    let fact = (position-Some (λ n. is_fact_table (slice_get j.query.tables n)) j.query.from j.query.fact 0 star.fact).0 in
    omega (arith, fact, length-combination (from_tables j) rows c, length-map j.query.from (λ n. unwrap_or (slice_get j.tables n) []))

pub number_below : (ts : List Columns) (rows : List ℕ) → IsCombination ts rows → (i n : ℕ) → slice_get rows i ≡ Some n → n < rows_of (slice_get ts i)
number_below [] [] c i n at = cc
number_below [] (r ∷ rows) c i n at = absurd c
number_below (t ∷ ts) [] c i n at = cc
number_below (t ∷ ts) (r ∷ rows) c zero n at = let same : r ≡ n = same_Some r n at in subst (λ m. m < rows_in t) same c.0
number_below (t ∷ ts) (r ∷ rows) c (suc i) n at = number_below ts rows c.1 i n at

-- ---- the totals of no row

totals_from-nothing : (i : ℕ) (aggs : List (Aggregate BoundColumn)) → totals_from i aggs [] ≡ map (λ a. agg a []) aggs
totals_from-nothing i [] = refl
totals_from-nothing i (a ∷ aggs) = ap (λ t. agg a [] ∷ t) (totals_from-nothing (i + 1) aggs)

pub totals-nothing : (aggs : List (Aggregate BoundColumn)) → totals aggs [] ≡ map (λ a. agg a []) aggs
totals-nothing aggs = totals_from-nothing 0 aggs
