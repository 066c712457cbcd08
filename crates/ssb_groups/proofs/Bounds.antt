-- No total of at most 2^32 rows wraps.
use Rattle.std.proofs.Common.{◌≡◌, ℕ, zero, suc, ◌+◌, ◌*◌, ◌^◌, ◌≤◌, ◌<◌, ℤ, pos, negsuc, ◌+ℤ◌, ◌≤ℤ◌, Bool, true, false, List, [], ◌∷◌, length, Some, arith}
use Rattle.std.specs.Prelude.{◌==◌, if◌then◌else◌, neg_ℤ, slice_get, unwrap_or}
use Rattle.std.proofs.lemmas.Bool.{ltb-true}
use Rattle.std.proofs.lemmas.Int.{ints}
use Rattle.ssb_cells.specs.Cell.{Cell, null, number, text}
use Rattle.ssb_plan.specs.JobShape.{JobShape}
use Rattle.ssb_query.specs.declared.column.BoundColumn.{BoundColumn}
use Rattle.ssb_trees.specs.declared.aggregate.Aggregate.{Aggregate}
use Rattle.ssb_trees.specs.declared.aggregate.Aggregate.TheVariants as aggregate
use Rattle.ssb_trees.specs.declared.aggregate.SetFunction.TheVariants as function
use Rattle.ssb_groups.specs.Aggregates.{agg, amount_of, arguments_at, count_of, exact_sum, totals, value_count}
use Rattle.ssb_groups.specs.Joining.{Fits, FitsAdded, joining_of}
use Rattle.ssb_groups.specs.Keys.{FitsSum}
use Rattle.ssb_groups.specs.Rows.{SeenRow}
use Rattle.ssb_groups.specs.Stands.{summary, IsRanged, EachRanged, AreRanged}
use Rattle.ssb_groups.specs.Value.{Outcome, over, known}

-- the values of at most n rows
pub record IsBounded (xs : List Outcome) (n : ℕ) : Type 0 where
  pub values : value_count xs ≤ n
  pub high : exact_sum xs ≤ℤ pos (n * 2 ^ 63)
  pub low : neg_ℤ (pos (n * 2 ^ 63)) ≤ℤ exact_sum xs

amount_high : (o : Outcome) → IsRanged o → amount_of o ≤ℤ pos (2 ^ 63)
amount_high over r = omega (arith, ints)
amount_high (known null) r = omega (arith, ints)
amount_high (known (number (pos n))) r = let h = ltb-true n (2 ^ 63) r in omega (arith, ints)
amount_high (known (number (negsuc n))) r = omega (arith, ints)
amount_high (known (text t)) r = omega (arith, ints)

amount_low : (o : Outcome) → IsRanged o → neg_ℤ (pos (2 ^ 63)) ≤ℤ amount_of o
amount_low over r = omega (arith, ints)
amount_low (known null) r = omega (arith, ints)
amount_low (known (number (pos n))) r = omega (arith, ints)
amount_low (known (number (negsuc n))) r = let h = ltb-true n (2 ^ 63) r in omega (arith, ints)
amount_low (known (text t)) r = omega (arith, ints)

count_of-le : (o : Outcome) → count_of o ≤ 1
count_of-le over = omega arith
count_of-le (known null) = omega arith
count_of-le (known (number n)) = omega arith
count_of-le (known (text t)) = omega arith

ranged_at : (xs : List Outcome) (i : ℕ) → EachRanged xs → IsRanged (unwrap_or (slice_get xs i) (known null))
ranged_at [] i p = tt
ranged_at (x ∷ xs) zero p = p.0
ranged_at (x ∷ xs) (suc i) p = ranged_at xs i p.1

-- one more value
IsBounded-cons : (x : Outcome) (xs : List Outcome) (n m : ℕ) → m ≡ n + 1 → IsRanged x → IsBounded xs n → IsBounded (x ∷ xs) m
IsBounded-cons x xs n m e p b =
    let h = amount_high x p in
    let l = amount_low x p in
    let v = count_of-le x in
    record { values = omega arith; high = omega (arith, ints); low = omega (arith, ints) }

IsBounded-rows : (i : ℕ) (rs : List SeenRow) → AreRanged rs → IsBounded (arguments_at i rs) (length rs)
IsBounded-rows i [] p = record { values = omega arith; high = omega (arith, ints); low = omega (arith, ints) }
IsBounded-rows i (r ∷ rs) p = IsBounded-cons (unwrap_or (slice_get r.arguments i) (known null)) (arguments_at i rs) (length rs) (length (r ∷ rs)) (omega arith) (ranged_at r.arguments i p.0) (IsBounded-rows i rs p.1)

-- two sums, either of which may be null
sums_fit : (b c : Bool) (s t : ℤ) → FitsSum (s +ℤ t) → FitsAdded (if b then null else number s) (if c then null else number t)
sums_fit true true s t h = tt
sums_fit true false s t h = tt
sums_fit false true s t h = tt
sums_fit false false s t h = h

Fits-bounded : (j : JobShape) (a : Aggregate BoundColumn) (xs ys : List Outcome) (m n : ℕ) → IsBounded xs m → IsBounded ys n → m + n < 2 ^ 32 → Fits (joining_of j a) (agg a xs) (agg a ys)
Fits-bounded j aggregate.Rows xs ys m n p q h = (omega (arith, ints), omega (arith, ints))
Fits-bounded j (aggregate.Of function.Sum e) xs ys m n p q h = sums_fit (value_count xs == 0) (value_count ys == 0) (exact_sum xs) (exact_sum ys) (omega (arith, ints), omega (arith, ints))
Fits-bounded j (aggregate.Of function.Count e) xs ys m n p q h = (omega (arith, ints), omega (arith, ints))
Fits-bounded j (aggregate.Of function.Min e) xs ys m n p q h = tt
Fits-bounded j (aggregate.Of function.Max e) xs ys m n p q h = tt

-- a summary is of the aggregates
pub summary_is : (aggs : List (Aggregate BoundColumn)) (rs : List SeenRow) (xs : List Cell) → summary aggs rs ≡ Some xs → xs ≡ totals aggs rs
summary_is aggs [] xs e = cc
summary_is aggs (r ∷ rs) xs e = cc

-- an aggregate over few rows of two lists can be joined
pub fits-rows : (j : JobShape) (i : ℕ) (a : Aggregate BoundColumn) (rs qs : List SeenRow) → AreRanged rs → AreRanged qs → length rs + length qs < 2 ^ 32 → Fits (joining_of j a) (agg a (arguments_at i rs)) (agg a (arguments_at i qs))
fits-rows j i a rs qs p q small = Fits-bounded j a (arguments_at i rs) (arguments_at i qs) (length rs) (length qs) (IsBounded-rows i rs p) (IsBounded-rows i qs q) small
