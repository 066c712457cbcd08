-- What groups stand for does not see the order of the rows.
use Rattle.std.proofs.Common.{◌≡◌, ◌∙◌, ◌∷◌, [], ◌||◌, ◌+◌, ◌<◌, ℕ, zero, suc, ℤ, pos, ◌+ℤ◌, Bool, true, false, cond, List, length, map, Option, None, Some, refl, sym, ap, ap₂, arith}
use Rattle.std.specs.Prelude.{◌==◌, if◌then◌else◌, slice_get, unwrap_or}
use Rattle.std.specs.List.{All, filter, swap, slice_set, slice_index_or}
use Rattle.std.specs.List.Sorted.{IsPermutation, SwapsInRange, apply_swaps}
use Rattle.std.proofs.lemmas.Int.{ints}
use Rattle.std.proofs.lemmas.List.{length-set}
use Rattle.std.proofs.lemmas.List.Sorted.{All-permutation}
use Rattle.ssb_groups.specs.Rows.{Key, key_eq, SeenRow}
use Rattle.ssb_groups.specs.Aggregates.{agg, amount_of, arguments_at, cell_in, chosen, count_of, exact_sum, greater, lesser, totals, totals_from, value_count}
use Rattle.ssb_groups.specs.Stands.{GroupMap, Stands, has_over, overflows, least_of, least, group, summary, EachRanged, AreRanged}
use Rattle.ssb_groups.specs.Value.{Outcome, known}
use Rattle.ssb_groups.proofs.AggregateFacts.{greater-assoc, greater-comm, lesser-assoc, lesser-comm}
use Rattle.ssb_cells.specs.Cell.{Cell, null, number}
use Rattle.ssb_query.specs.declared.column.BoundColumn.{BoundColumn}
use Rattle.ssb_trees.specs.declared.aggregate.Aggregate.{Aggregate}
use Rattle.ssb_trees.specs.declared.aggregate.Aggregate.TheVariants as aggregate
use Rattle.ssb_trees.specs.declared.aggregate.SetFunction.TheVariants as function

-- ---- what is computed row by row, by steps that commute

module _ {X S : Type 0} (step : X → S → S) (base : S) (commutes : (x y : X) (s : S) → step x (step y s) ≡ step y (step x s)) where
  abbrev pub all : List X → S
  all [] = base
  all (x ∷ xs) = step x (all xs)

  exchanged : (x d : X) (ys : List X) (j : ℕ) → j < length ys → step (slice_index_or ys j d) (all (slice_set ys j x)) ≡ step x (all ys)
  exchanged x d [] j below = absurd (omega arith)
  exchanged x d (y ∷ ys) zero below = commutes y x (all ys)
  exchanged x d (y ∷ ys) (suc j) below =
      commutes (slice_index_or ys j d) y (all (slice_set ys j x)) ∙ ap (step y) (exchanged x d ys j (omega arith)) ∙ commutes y x (all ys)

  swapped_by : (d : X) (xs : List X) (i j : ℕ) → i < length xs → j < length xs → all (slice_set (slice_set xs i (slice_index_or xs j d)) j (slice_index_or xs i d)) ≡ all xs
  swapped_by d [] i j h k = absurd (omega arith)
  swapped_by d (x ∷ xs) zero zero h k = refl
  swapped_by d (x ∷ xs) zero (suc j) h k = exchanged x d xs j (omega arith)
  swapped_by d (x ∷ xs) (suc i) zero h k = exchanged x d xs i (omega arith)
  swapped_by d (x ∷ xs) (suc i) (suc j) h k = ap (step x) (swapped_by d xs i j (omega arith) (omega arith))

  swapped : (xs : List X) (i j : ℕ) → i < length xs → j < length xs → all (swap xs i j) ≡ all xs
  swapped [] i j h k = refl
  swapped (x ∷ xs) i j h k = swapped_by x (x ∷ xs) i j h k

  length_swap : (xs : List X) (i j : ℕ) → length (swap xs i j) ≡ length xs
  length_swap [] i j = refl
  length_swap (x ∷ xs) i j = length-set (slice_set (x ∷ xs) i (slice_index_or (x ∷ xs) j x)) j (slice_index_or (x ∷ xs) i x) ∙ length-set (x ∷ xs) i (slice_index_or (x ∷ xs) j x)

  through : (xs : List X) (moves : List (ℕ × ℕ)) → SwapsInRange (length xs) moves → (all (apply_swaps xs moves) ≡ all xs) × (length (apply_swaps xs moves) ≡ length xs)
  through xs [] h = (refl, refl)
  through xs (m ∷ moves) h =
      let r = through xs moves h.2 in
      let n = r.1 in
      let i = h.0 in
      let j = h.1 in
      (swapped (apply_swaps xs moves) m.0 m.1 (omega (arith, n, i)) (omega (arith, n, j)) ∙ r.0, length_swap (apply_swaps xs moves) m.0 m.1 ∙ n)

  -- what is computed does not see the order
  pub permuted : (xs ys : List X) → IsPermutation xs ys → all xs ≡ all ys
  permuted xs ys p = sym (ap all p.is ∙ (through xs p.moves p.below).0)

-- ---- rows

length_all : (R : List SeenRow) → length R ≡ all (λ r n. suc n) 0 (λ x y n. refl) R
length_all [] = refl
length_all (r ∷ R) = ap suc (length_all R)

or_least : SeenRow → Option ℕ → Option ℕ
or_least r other = cond (has_over r) (least_of (Some r.fact) other) other

least_flips : (a b : ℕ) (o : Option ℕ) → least_of (Some a) (least_of (Some b) o) ≡ least_of (Some b) (least_of (Some a) o)
least_flips a b None = ap Some (omega arith)
least_flips a b (Some c) = ap Some (omega arith)

least_commutes : (x y : SeenRow) (o : Option ℕ) → or_least x (or_least y o) ≡ or_least y (or_least x o)
unfolding or_least
least_commutes x y o = by (has_over x) (has_over y)
  where
    by : (a b : Bool) → cond a (least_of (Some x.fact) (cond b (least_of (Some y.fact) o) o)) (cond b (least_of (Some y.fact) o) o) ≡ cond b (least_of (Some y.fact) (cond a (least_of (Some x.fact) o) o)) (cond a (least_of (Some x.fact) o) o)
    by true true = least_flips x.fact y.fact o
    by true false = refl
    by false true = refl
    by false false = refl

least_all : (R : List SeenRow) → least (overflows R) ≡ all or_least None least_commutes R
unfolding or_least
least_all [] = refl
least_all (r ∷ R) = by (has_over r) (least_all R)
  where
    by : (b : Bool) → least (overflows R) ≡ all or_least None least_commutes R → least (map (λ (x : SeenRow). x.fact) (cond b (r ∷ filter has_over R) (filter has_over R))) ≡ cond b (least_of (Some r.fact) (all or_least None least_commutes R)) (all or_least None least_commutes R)
    by true h = ap (least_of (Some r.fact)) h
    by false h = h

-- ---- what each value does to an aggregate

abbrev count : Outcome → ℕ → ℕ
count x n = count_of x + n

count_flips : (x y : Outcome) (n : ℕ) → count x (count y n) ≡ count y (count x n)
count_flips x y n = omega arith

abbrev sum : Outcome → ℤ → ℤ
sum x n = amount_of x +ℤ n

sum_flips : (x y : Outcome) (n : ℤ) → sum x (sum y n) ≡ sum y (sum x n)
sum_flips x y n = omega (arith, ints)

module _ (choice : Cell → Cell → Cell) (assoc : (a b c : Cell) → choice a (choice b c) ≡ choice (choice a b) c) (comm : (a b : Cell) → choice a b ≡ choice b a) where
  abbrev choose : Outcome → Cell → Cell
  choose x c = choice (cell_in x) c

  choose_flips : (x y : Outcome) (c : Cell) → choose x (choose y c) ≡ choose y (choose x c)
  choose_flips x y c = assoc (cell_in x) (cell_in y) c ∙ ap (λ d. choice d c) (comm (cell_in x) (cell_in y)) ∙ sym (assoc (cell_in y) (cell_in x) c)

-- the rows of a group, by a step on each

module _ (k : Key) where
  -- what the i-th aggregate takes of a row
  abbrev taken : ℕ → SeenRow → Outcome
  taken i r = unwrap_or (slice_get r.arguments i) (known null)

  -- what is computed of the group's values, by steps on each that commute
  module _ {S : Type 0} (step : Outcome → S → S) (base : S) (flips : (x y : Outcome) (s : S) → step x (step y s) ≡ step y (step x s)) where
    or_taken : ℕ → SeenRow → S → S
    or_taken i r s = cond (key_eq k r.key) (step (taken i r) s) s

    taken_commutes : (i : ℕ) (x y : SeenRow) (s : S) → or_taken i x (or_taken i y s) ≡ or_taken i y (or_taken i x s)
    unfolding or_taken
    taken_commutes i x y s = by (key_eq k x.key) (key_eq k y.key)
      where
        by : (a b : Bool) → cond a (step (taken i x) (cond b (step (taken i y) s) s)) (cond b (step (taken i y) s) s) ≡ cond b (step (taken i y) (cond a (step (taken i x) s) s)) (cond a (step (taken i x) s) s)
        by true true = flips (taken i x) (taken i y) s
        by true false = refl
        by false true = refl
        by false false = refl

    abbrev over : List Outcome → S
    over [] = base
    over (x ∷ xs) = step x (over xs)

    over_group : (i : ℕ) (R : List SeenRow) → over (arguments_at i (group k R)) ≡ all (or_taken i) base (taken_commutes i) R
    unfolding or_taken
    over_group i [] = refl
    over_group i (r ∷ R) = by (key_eq k r.key) (over_group i R)
      where
        by : (b : Bool) → over (arguments_at i (group k R)) ≡ all (or_taken i) base (taken_commutes i) R
            → over (arguments_at i (cond b (r ∷ group k R) (group k R))) ≡ cond b (step (taken i r) (all (or_taken i) base (taken_commutes i) R)) (all (or_taken i) base (taken_commutes i) R)
        by true h = ap (step (taken i r)) h
        by false h = h

    same_over : (i : ℕ) (R Q : List SeenRow) → IsPermutation R Q → over (arguments_at i (group k R)) ≡ over (arguments_at i (group k Q))
    same_over i R Q p = over_group i R ∙ permuted (or_taken i) base (taken_commutes i) R Q p ∙ sym (over_group i Q)

  same_count : (i : ℕ) (R Q : List SeenRow) → IsPermutation R Q → value_count (arguments_at i (group k R)) ≡ value_count (arguments_at i (group k Q))
  same_count i R Q p = counts (arguments_at i (group k R)) ∙ same_over count 0 count_flips i R Q p ∙ sym (counts (arguments_at i (group k Q)))
    where
      counts : (xs : List Outcome) → value_count xs ≡ over count 0 count_flips xs
      counts [] = refl
      counts (x ∷ xs) = ap (count x) (counts xs)

  same_sum : (i : ℕ) (R Q : List SeenRow) → IsPermutation R Q → exact_sum (arguments_at i (group k R)) ≡ exact_sum (arguments_at i (group k Q))
  same_sum i R Q p = sums (arguments_at i (group k R)) ∙ same_over sum (pos 0) sum_flips i R Q p ∙ sym (sums (arguments_at i (group k Q)))
    where
      sums : (xs : List Outcome) → exact_sum xs ≡ over sum (pos 0) sum_flips xs
      sums [] = refl
      sums (x ∷ xs) = ap (sum x) (sums xs)

  same_choice : (choice : Cell → Cell → Cell) (assoc : (a b c : Cell) → choice a (choice b c) ≡ choice (choice a b) c) (comm : (a b : Cell) → choice a b ≡ choice b a) (i : ℕ) (R Q : List SeenRow) → IsPermutation R Q
      → chosen choice (arguments_at i (group k R)) ≡ chosen choice (arguments_at i (group k Q))
  same_choice choice assoc comm i R Q p =
      choices (arguments_at i (group k R)) ∙ same_over (choose choice assoc comm) null (choose_flips choice assoc comm) i R Q p ∙ sym (choices (arguments_at i (group k Q)))
    where
      choices : (xs : List Outcome) → chosen choice xs ≡ over (choose choice assoc comm) null (choose_flips choice assoc comm) xs
      choices [] = refl
      choices (x ∷ xs) = ap (choice (cell_in x)) (choices xs)

  same_agg : (a : Aggregate BoundColumn) (i : ℕ) (R Q : List SeenRow) → IsPermutation R Q → agg a (arguments_at i (group k R)) ≡ agg a (arguments_at i (group k Q))
  same_agg aggregate.Rows i R Q p = ap (λ n. number (pos n)) (same_count i R Q p)
  same_agg (aggregate.Of function.Sum e) i R Q p = ap₂ (λ n s. if n == 0 then null else number s) (same_count i R Q p) (same_sum i R Q p)
  same_agg (aggregate.Of function.Count e) i R Q p = ap (λ n. number (pos n)) (same_count i R Q p)
  same_agg (aggregate.Of function.Min e) i R Q p = same_choice lesser lesser-assoc lesser-comm i R Q p
  same_agg (aggregate.Of function.Max e) i R Q p = same_choice greater greater-assoc greater-comm i R Q p

  or_there : SeenRow → Bool → Bool
  or_there r b = key_eq k r.key || b

  there_commutes : (x y : SeenRow) (b : Bool) → or_there x (or_there y b) ≡ or_there y (or_there x b)
  unfolding or_there
  there_commutes x y b = by (key_eq k x.key) (key_eq k y.key)
    where
      by : (p q : Bool) → (p || (q || b)) ≡ (q || (p || b))
      by true true = refl
      by true false = refl
      by false q = refl

  abbrev summary_if : List (Aggregate BoundColumn) → Bool → List SeenRow → Option (List Cell)
  summary_if aggs b G = cond b (Some (totals aggs G)) None

  summary_all : (aggs : List (Aggregate BoundColumn)) (R : List SeenRow) → summary aggs (group k R) ≡ summary_if aggs (all or_there false there_commutes R) (group k R)
  unfolding or_there
  summary_all aggs [] = refl
  summary_all aggs (r ∷ R) = by (key_eq k r.key) (summary_all aggs R)
    where
      by : (b : Bool) → summary aggs (group k R) ≡ summary_if aggs (all or_there false there_commutes R) (group k R)
          → summary aggs (cond b (r ∷ group k R) (group k R)) ≡ summary_if aggs (b || all or_there false there_commutes R) (cond b (r ∷ group k R) (group k R))
      by true h = refl
      by false h = h

  same_totals : (i : ℕ) (aggs : List (Aggregate BoundColumn)) (R Q : List SeenRow) → IsPermutation R Q → totals_from i aggs (group k R) ≡ totals_from i aggs (group k Q)
  same_totals i [] R Q p = refl
  same_totals i (a ∷ aggs) R Q p = ap₂ (λ x xs. x ∷ xs) (same_agg a i R Q p) (same_totals (i + 1) aggs R Q p)

  pub same_summary : (aggs : List (Aggregate BoundColumn)) (R Q : List SeenRow) → IsPermutation R Q → summary aggs (group k R) ≡ summary aggs (group k Q)
  same_summary aggs R Q p =
      summary_all aggs R ∙ ap₂ (λ b ts. cond b (Some ts) None) (permuted or_there false there_commutes R Q p) (same_totals 0 aggs R Q p) ∙ sym (summary_all aggs Q)

-- ---- ranges

ranged_each : (R : List SeenRow) → AreRanged R → All (λ r. EachRanged r.arguments) R
ranged_each [] h i d below = absurd (omega arith)
ranged_each (r ∷ R) h zero d below = h.0
ranged_each (r ∷ R) h (suc i) d below = ranged_each R h.1 i d (omega arith)

each_ranged : (R : List SeenRow) → All (λ r. EachRanged r.arguments) R → AreRanged R
each_ranged [] h = tt
each_ranged (r ∷ R) h = (h 0 r (omega arith), each_ranged R (λ i d below. h (suc i) d (omega arith)))

-- groups that stand for rows stand for them in every order
pub any_order : (g : GroupMap) (R Q : List SeenRow) → IsPermutation R Q → Stands g R → Stands g Q
any_order g R Q p s = record {
  ranged = each_ranged Q (All-permutation (λ r. EachRanged r.arguments) R Q p (ranged_each R s.ranged));
  counted = s.counted ∙ length_all R ∙ permuted (λ r n. suc n) 0 (λ x y n. refl) R Q p ∙ sym (length_all Q);
  overflow = s.overflow ∙ least_all R ∙ permuted or_least None least_commutes R Q p ∙ sym (least_all Q);
  exact = λ none k. s.exact none k ∙ same_summary k g.job.query.aggregates R Q p;
  distinct = s.distinct;
}
