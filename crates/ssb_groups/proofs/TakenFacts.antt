-- What the aggregates take of the combinations of a block.
use Rattle.std.proofs.Common.{◌≡◌, ◌∙◌, ◌++◌, ◌||◌, ◌<◌, ℕ, zero, suc, Bool, true, false, cond, List, [], ◌∷◌, Option, None, Some, map, length, get_or, slice_get, refl, sym, ap, ap₂, subst, arith}
use Rattle.std.proofs.Math.Bool.{or_assoc}
use Rattle.std.specs.List.{filter, list_any}
use Rattle.std.specs.Prelude.{IfSome, unwrap_or}
use Rattle.std.proofs.lemmas.Option.{same_Some}
use Rattle.ssb_cells.specs.Cell.{Cell, null}
use Rattle.ssb_query.specs.declared.column.BoundColumn.{BoundColumn}
use Rattle.ssb_trees.specs.declared.aggregate.Aggregate.{Aggregate}
use Rattle.ssb_trees.specs.declared.aggregate.Aggregate.TheVariants as aggregate
use Rattle.ssb_trees.specs.declared.aggregate.SetFunction.{SetFunction}
use Rattle.ssb_trees.specs.declared.aggregate.SetFunction.TheVariants as function
use Rattle.ssb_trees.specs.declared.expr.Expr.{Expr}
use Rattle.ssb_conditions.specs.Rows.{column_value}
use Rattle.ssb_plan.specs.JobShape.{JobShape, from_tables}
use Rattle.ssb_groups.specs.Aggregates.{agg, arguments_at}
use Rattle.ssb_groups.specs.Gathering.{AllTaken, AreTaken, IsTaken, facts_where, key_at, over_at}
use Rattle.ssb_groups.specs.Keys.{IsKept, spelt_cell}
use Rattle.ssb_groups.specs.Outcomes.{kept_outcome}
use Rattle.ssb_groups.specs.Places.{AllOver}
use Rattle.ssb_groups.specs.Seen.{argument, fact_of, seen}
use Rattle.ssb_groups.specs.Stands.{AreRanged, EachRanged, IsRanged, has_over, is_over, least, least_of, overflows}
use Rattle.ssb_groups.specs.Tallies.{AreAdded, texts_of}
use Rattle.ssb_groups.specs.Value.{over, known}
use Rattle.ssb_keys.specs.declared.kept.Kept.{Kept}
use Rattle.ssb_keys.specs.declared.kept.Kept.TheVariants as kept
use Rattle.ssb_groups.proofs.RowFacts.{least-append, least_of-assoc}

-- ---- one aggregate

nothing : (f : SetFunction) (e : Expr BoundColumn) → agg (aggregate.Of f e) (known null ∷ []) ≡ agg (aggregate.Of f e) (over ∷ [])
nothing function.Sum e = refl
nothing function.Count e = refl
nothing function.Min e = refl
nothing function.Max e = refl

-- over what stands for a value it is as over the value
pub same-alone : (f : SetFunction) (e : Expr BoundColumn) (values : List Cell) (o : Option Kept) → agg (aggregate.Of f e) (known (spelt_cell values (unwrap_or o kept.Null)) ∷ []) ≡ agg (aggregate.Of f e) (kept_outcome values o ∷ [])
same-alone f e values None = nothing f e
same-alone f e values (Some c) = refl

pub kept-or : (values : List Cell) (o : Option Kept) → IfSome o (IsKept values) → IsKept values (unwrap_or o kept.Null)
kept-or values None h = tt
kept-or values (Some c) h = h

-- ---- one combination after the other

pub taken-more : (j : JobShape) (a : Aggregate BoundColumn) (block : List (List ℕ)) (ts : List Kept) (rows : List ℕ) (t : Kept) → AreTaken j a block ts → IsTaken j rows a (record { over = over_at j a rows; total = t }) → AreTaken j a (block ++ rows ∷ []) (ts ++ t ∷ [])
taken-more j a [] [] rows t h is = (is, tt)
taken-more j a [] (x ∷ ts) rows t h is = absurd h
taken-more j a (y ∷ block) [] rows t h is = absurd h
taken-more j a (y ∷ block) (x ∷ ts) rows t h is = (h.0, taken-more j a block ts rows t h.1 is)

pub taken-long : (j : JobShape) (a : Aggregate BoundColumn) (block : List (List ℕ)) (ts : List Kept) → AreTaken j a block ts → length ts ≡ length block
taken-long j a [] [] h = refl
taken-long j a [] (t ∷ ts) h = absurd h
taken-long j a (rows ∷ block) [] h = absurd h
taken-long j a (rows ∷ block) (t ∷ ts) h = ap suc (taken-long j a block ts h.1)

pub taken-at : (j : JobShape) (a : Aggregate BoundColumn) (block : List (List ℕ)) (ts : List Kept) (n : ℕ) (rows : List ℕ) → AreTaken j a block ts → slice_get block n ≡ Some rows → IsTaken j rows a (record { over = over_at j a rows; total = get_or ts n kept.Null })
taken-at j a [] ts n rows h e = cc
taken-at j a (y ∷ block) [] n rows h e = absurd h
taken-at j a (y ∷ block) (t ∷ ts) zero rows h e = subst (λ x. IsTaken j x a (record { over = over_at j a x; total = t })) (same_Some y rows e) h.0
taken-at j a (y ∷ block) (t ∷ ts) (suc n) rows h e = taken-at j a block ts n rows h.1 e

taken-kept : (j : JobShape) (a : Aggregate BoundColumn) (block : List (List ℕ)) (ts : List Kept) (n : ℕ) → AreTaken j a block ts → IsKept (texts_of j a) (get_or ts n kept.Null)
taken-kept j a [] [] n h = tt
taken-kept j a [] (t ∷ ts) n h = absurd h
taken-kept j a (y ∷ block) [] n h = absurd h
taken-kept j a (y ∷ block) (t ∷ ts) zero h = h.0.kept
taken-kept j a (y ∷ block) (t ∷ ts) (suc n) h = taken-kept j a block ts n h.1

-- what is gathered is a total for each combination
pub taken-added : (j : JobShape) (block : List (List ℕ)) (tallies : List (List Kept)) → length tallies ≡ length j.query.aggregates → AllTaken j block tallies → AreAdded j (length block) tallies
taken-added j block tallies many all = record {
  many = many;
  each = λ i a at.
      let is = all i a at in
      let long = taken-long j a block (get_or tallies i []) is in
      record { long = omega (arith, long); kept = λ p. taken-kept j a block (get_or tallies i []) p is };
}

-- ---- where an argument is Over

least-one : (b : Bool) (n : ℕ) → least (cond b (n ∷ []) []) ≡ cond b (Some n) None
least-one true n = refl
least-one false n = refl

module _ (j : JobShape) where
  facts-more : (test : List ℕ → Bool) (block : List (List ℕ)) (rows : List ℕ) → facts_where j test (block ++ rows ∷ []) ≡ facts_where j test block ++ cond (test rows) (fact_of j rows ∷ []) []
  facts-more test [] rows = elim (test rows) as (λ b. map (fact_of j) (cond b (rows ∷ []) []) ≡ cond b (fact_of j rows ∷ []) []) [ true ↦ refl | false ↦ refl ]
  facts-more test (x ∷ block) rows =
      let rest = facts-more test block rows in
      elim (test x) as (λ b. map (fact_of j) (cond b (x ∷ filter test (block ++ rows ∷ [])) (filter test (block ++ rows ∷ []))) ≡ map (fact_of j) (cond b (x ∷ filter test block) (filter test block)) ++ cond (test rows) (fact_of j rows ∷ []) []) [
        | true ↦ ap (λ xs. fact_of j x ∷ xs) rest
        | false ↦ rest
      ]

  -- the least with one combination more
  pub least-more : (test : List ℕ → Bool) (block : List (List ℕ)) (rows : List ℕ) (start now next : Option ℕ) (over : Bool) → over ≡ test rows → now ≡ least_of start (least (facts_where j test block)) → next ≡ least_of now (cond over (Some (fact_of j rows)) None)
      → next ≡ least_of start (least (facts_where j test (block ++ rows ∷ [])))
  least-more test block rows start now next b is before after =
      after ∙ ap₂ (λ x b. least_of x (cond b (Some (fact_of j rows)) None)) before is
      ∙ sym (least_of-assoc start (least (facts_where j test block)) (cond (test rows) (Some (fact_of j rows)) None))
      ∙ ap (least_of start) (ap (least_of (least (facts_where j test block))) (sym (least-one (test rows) (fact_of j rows))) ∙ sym (least-append (facts_where j test block) (cond (test rows) (fact_of j rows ∷ []) [])) ∙ sym (ap least (facts-more test block rows)))

  pub facts-none : (test : List ℕ → Bool) (block : List (List ℕ)) → ((rows : List ℕ) → test rows ≡ false) → facts_where j test block ≡ []
  facts-none test [] none = refl
  facts-none test (x ∷ block) none = ap (λ b. map (fact_of j) (cond b (x ∷ filter test block) (filter test block))) (none x) ∙ facts-none test block none

  facts-same : (p q : List ℕ → Bool) (block : List (List ℕ)) → ((rows : List ℕ) → p rows ≡ q rows) → facts_where j p block ≡ facts_where j q block
  facts-same p q [] same = refl
  facts-same p q (x ∷ block) same = by (p x) (q x) (same x) (facts-same p q block same)
    where
      by : (b c : Bool) → b ≡ c → facts_where j p block ≡ facts_where j q block → map (fact_of j) (cond b (x ∷ filter p block) (filter p block)) ≡ map (fact_of j) (cond c (x ∷ filter q block) (filter q block))
      by true true e rest = ap (λ xs. fact_of j x ∷ xs) rest
      by true false e rest = cc e
      by false true e rest = cc e
      by false false e rest = rest

  -- the least of those that pass one test or the other
  least-or : (p q : List ℕ → Bool) (block : List (List ℕ)) → least (facts_where j (λ rows. p rows || q rows) block) ≡ least_of (least (facts_where j p block)) (least (facts_where j q block))
  least-or p q [] = refl
  least-or p q (x ∷ block) = by (least-or p q block) (p x) (q x)
    where
      n : ℕ
      n = fact_of j x

      both : List ℕ
      both = facts_where j (λ rows. p rows || q rows) block

      by : least both ≡ least_of (least (facts_where j p block)) (least (facts_where j q block)) → (b c : Bool)
          → least (map (fact_of j) (cond (b || c) (x ∷ filter (λ rows. p rows || q rows) block) (filter (λ rows. p rows || q rows) block)))
          ≡ least_of (least (map (fact_of j) (cond b (x ∷ filter p block) (filter p block)))) (least (map (fact_of j) (cond c (x ∷ filter q block) (filter q block))))
      by rest true true = ap (least_of (Some n)) rest ∙ twice (least (facts_where j p block)) (least (facts_where j q block))
        where
          twice : (a b : Option ℕ) → least_of (Some n) (least_of a b) ≡ least_of (least_of (Some n) a) (least_of (Some n) b)
          twice None None = ap Some (omega arith)
          twice None (Some b) = ap Some (omega arith)
          twice (Some a) None = ap Some (omega arith)
          twice (Some a) (Some b) = ap Some (omega arith)
      by rest true false = ap (least_of (Some n)) rest ∙ least_of-assoc (Some n) (least (facts_where j p block)) (least (facts_where j q block))
      by rest false true = ap (least_of (Some n)) rest ∙ swapped (least (facts_where j p block)) (least (facts_where j q block))
        where
          swapped : (a b : Option ℕ) → least_of (Some n) (least_of a b) ≡ least_of a (least_of (Some n) b)
          swapped None b = refl
          swapped (Some a) None = ap Some (omega arith)
          swapped (Some a) (Some b) = ap Some (omega arith)
      by rest false false = rest

  any-last : (rows : List ℕ) (aggs : List (Aggregate BoundColumn)) (a : Aggregate BoundColumn) → list_any (λ x. over_at j x rows) (aggs ++ a ∷ []) ≡ (list_any (λ x. over_at j x rows) aggs || over_at j a rows)
  any-last rows [] a = elim (over_at j a rows) as (λ b. (b || false) ≡ b) [ true ↦ refl | false ↦ refl ]
  any-last rows (x ∷ aggs) a = ap (λ b. over_at j x rows || b) (any-last rows aggs a) ∙ sym (or_assoc (over_at j x rows) (list_any (λ y. over_at j y rows) aggs) (over_at j a rows))

  -- the least with one aggregate more
  pub least-next : (aggs : List (Aggregate BoundColumn)) (a : Aggregate BoundColumn) (block : List (List ℕ)) (now next : Option ℕ) → now ≡ least (facts_where j (λ rows. list_any (λ x. over_at j x rows) aggs) block) → next ≡ least_of now (least (facts_where j (over_at j a) block))
      → next ≡ least (facts_where j (λ rows. list_any (λ x. over_at j x rows) (aggs ++ a ∷ [])) block)
  least-next aggs a block now next before after =
      after ∙ ap (λ x. least_of x (least (facts_where j (over_at j a) block))) before ∙ sym (least-or (λ rows. list_any (λ x. over_at j x rows) aggs) (over_at j a) block)
      ∙ ap least (facts-same (λ rows. list_any (λ x. over_at j x rows) aggs || over_at j a rows) (λ rows. list_any (λ x. over_at j x rows) (aggs ++ a ∷ [])) block (λ rows. sym (any-last rows aggs a)))

  any-seen : (rows : List ℕ) (aggs : List (Aggregate BoundColumn)) → list_any (λ x. over_at j x rows) aggs ≡ list_any is_over (map (argument (column_value (from_tables j) rows)) aggs)
  any-seen rows [] = refl
  any-seen rows (a ∷ aggs) = ap (λ b. over_at j a rows || b) (any-seen rows aggs)

  -- the fact rows of the overflows of a block
  pub facts-seen : (block : List (List ℕ)) → facts_where j (λ rows. list_any (λ x. over_at j x rows) j.query.aggregates) block ≡ overflows (map (seen j) block)
  facts-seen [] = refl
  facts-seen (x ∷ block) = by (list_any (λ a. over_at j a x) j.query.aggregates) (has_over (seen j x)) (any-seen x j.query.aggregates) (facts-seen block)
    where
      by : (b c : Bool) → b ≡ c → facts_where j (λ rows. list_any (λ a. over_at j a rows) j.query.aggregates) block ≡ overflows (map (seen j) block)
          → map (fact_of j) (cond b (x ∷ filter (λ rows. list_any (λ a. over_at j a rows) j.query.aggregates) block) (filter (λ rows. list_any (λ a. over_at j a rows) j.query.aggregates) block))
          ≡ map (λ r. r.fact) (cond c (seen j x ∷ filter has_over (map (seen j) block)) (filter has_over (map (seen j) block)))
      by true true e rest = ap (λ xs. fact_of j x ∷ xs) rest
      by true false e rest = cc e
      by false true e rest = cc e
      by false false e rest = rest

  -- ---- the rows of a block

  argument-at : (rows : List ℕ) (aggs : List (Aggregate BoundColumn)) (i : ℕ) (a : Aggregate BoundColumn) → slice_get aggs i ≡ Some a → unwrap_or (slice_get (map (argument (column_value (from_tables j) rows)) aggs) i) (known null) ≡ argument (column_value (from_tables j) rows) a
  argument-at rows [] i a e = cc
  argument-at rows (x ∷ aggs) zero a e = ap (argument (column_value (from_tables j) rows)) (same_Some x a e)
  argument-at rows (x ∷ aggs) (suc i) a e = argument-at rows aggs i a e

  each-ranged : (rows : List ℕ) (aggs : List (Aggregate BoundColumn)) → ((i : ℕ) (a : Aggregate BoundColumn) → slice_get aggs i ≡ Some a → IsRanged (argument (column_value (from_tables j) rows) a)) → EachRanged (map (argument (column_value (from_tables j) rows)) aggs)
  each-ranged rows [] h = tt
  each-ranged rows (a ∷ aggs) h = (h 0 a refl, each-ranged rows aggs (λ i x e. h (suc i) x e))

  all-ranged : (all rest : List (List ℕ)) → ((n : ℕ) (rows : List ℕ) → slice_get rest n ≡ Some rows → EachRanged (seen j rows).arguments) → AreRanged (map (seen j) rest)
  all-ranged all [] h = tt
  all-ranged all (rows ∷ rest) h = (h 0 rows refl, all-ranged all rest (λ n x e. h (suc n) x e))

  pub taken-ranged : (block : List (List ℕ)) (tallies : List (List Kept)) → AllTaken j block tallies → AreRanged (map (seen j) block)
  taken-ranged block tallies all = all-ranged block block (λ n rows e. each-ranged rows j.query.aggregates (λ i a at. (taken-at j a block (get_or tallies i []) n rows (all i a at) e).ranged))

  singles-at : (block : List (List ℕ)) (n : ℕ) → n < length (map (λ r. r ∷ []) (map (seen j) block)) → (rows : List ℕ) × (slice_get block n ≡ Some rows) × (get_or (map (λ r. r ∷ []) (map (seen j) block)) n [] ≡ seen j rows ∷ [])
  singles-at [] n lt = absurd (omega (arith, lt))
  singles-at (rows ∷ block) zero lt = (rows, refl, refl)
  singles-at (rows ∷ block) (suc n) lt = singles-at block n (omega (arith, lt))

  -- the totals of a block are those over each row alone
  pub taken-over : (block : List (List ℕ)) (tallies : List (List Kept)) → AllTaken j block tallies → AllOver j tallies (map (λ r. r ∷ []) (map (seen j) block))
  taken-over block tallies all = λ i a at n lt.
      let one = singles-at block n lt in
      (taken-at j a block (get_or tallies i []) n one.0 (all i a at) one.1).alone
      ∙ ap (λ x. agg a (x ∷ [])) (sym (argument-at one.0 j.query.aggregates i a at)) ∙ ap (λ R. agg a (arguments_at i R)) (sym one.2)

  pub keys-seen : (block : List (List ℕ)) → map (key_at j) block ≡ map (λ r. r.key) (map (seen j) block)
  keys-seen [] = refl
  keys-seen (rows ∷ block) = ap (λ ks. key_at j rows ∷ ks) (keys-seen block)
