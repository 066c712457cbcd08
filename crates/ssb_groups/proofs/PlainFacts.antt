-- What aggregates take of a block where none is Over: by loops over columns.
use Rattle.std.proofs.Common.{◌≡◌, ◌∙◌, ◌<◌, ℕ, suc, pos, Bool, true, false, cond, List, [], ◌∷◌, Some, map, length, get_or, slice_get, refl, sym, ap, ap₂, subst, arith}
use Rattle.std.specs.List.{All, filter}
use Rattle.std.proofs.lemmas.List.{get_or-map, length-map}
use Rattle.std.proofs.lemmas.Option.{get_or_from_slice_get, slice_get_within}
use Rattle.ssb_cells.specs.Cell.{Cell}
use Rattle.ssb_query.specs.declared.column.BoundColumn.{BoundColumn}
use Rattle.ssb_trees.specs.declared.aggregate.Aggregate.{Aggregate}
use Rattle.ssb_trees.specs.declared.aggregate.Aggregate.TheVariants as aggregate
use Rattle.ssb_trees.specs.declared.aggregate.SetFunction.{SetFunction}
use Rattle.ssb_trees.specs.declared.expr.Expr.{Expr}
use Rattle.ssb_conditions.specs.Rows.{IsCombination, column_value}
use Rattle.ssb_plan.specs.Inputs.{has_column, input_of, values_of}
use Rattle.ssb_plan.specs.JobShape.{JobShape, from_tables}
use Rattle.ssb_plan.specs.declared.input.ColumnRef.{ColumnRef}
use Rattle.ssb_plan.specs.declared.input.Input.TheVariants as input
use Rattle.ssb_groups.specs.Aggregates.{agg}
use Rattle.ssb_groups.specs.Alone.{AreAlone, AreApplied, IsTotalOf, texts_by}
use Rattle.ssb_groups.specs.Gathering.{AreTaken, AreTakenPlain, IsTaken, facts_where, over_at}
use Rattle.ssb_groups.specs.Keys.{IsKept, column_values, key_cell, spelt_cell}
use Rattle.ssb_groups.specs.Outcomes.{exact}
use Rattle.ssb_groups.specs.Pairs.{IsPairOf}
use Rattle.ssb_groups.specs.Refs.{bound, cell_in, input_texts, input_value, ref_value}
use Rattle.ssb_groups.specs.Seen.{argument, fact_of}
use Rattle.ssb_groups.specs.Stands.{IsRanged, is_over}
use Rattle.ssb_groups.specs.Tallies.{texts_of}
use Rattle.ssb_groups.specs.Value.{apply, column_number, column_outcome, known}
use Rattle.ssb_groups.specs.declared.pair.Pair.{Pair}
use Rattle.ssb_keys.specs.declared.kept.Kept.{Kept}
use Rattle.ssb_keys.specs.declared.kept.Kept.TheVariants as kept
use Rattle.ssb_groups.proofs.ColumnFacts.{place-cell, place-values, respells-by}
use Rattle.ssb_groups.proofs.InputFacts.{input-value, texts-are}

-- what is taken of one combination, at which it is not Over
record IsPlain (j : JobShape) (a : Aggregate BoundColumn) (rows : List ℕ) (t : Kept) : Type 0 where
  taken : IsTaken j rows a (record { over = over_at j a rows; total = t })
  plain : over_at j a rows ≡ false

-- ---- a block, from each of its combinations

taken-each : (j : JobShape) (a : Aggregate BoundColumn) (block : List (List ℕ)) (ts : List Kept) → length ts ≡ length block → ((n : ℕ) (rows : List ℕ) → slice_get block n ≡ Some rows → IsPlain j a rows (get_or ts n kept.Null)) → AreTaken j a block ts
taken-each j a [] [] same each = tt
taken-each j a [] (t ∷ ts) same each = absurd (omega (arith, same))
taken-each j a (rows ∷ block) [] same each = absurd (omega (arith, same))
taken-each j a (rows ∷ block) (t ∷ ts) same each = ((each 0 rows refl).taken, taken-each j a block ts (omega (arith, same)) (λ n rs at. each (suc n) rs at))

none-where : (j : JobShape) (test : List ℕ → Bool) (block : List (List ℕ)) → ((n : ℕ) (rows : List ℕ) → slice_get block n ≡ Some rows → test rows ≡ false) → facts_where j test block ≡ []
none-where j test [] none = refl
none-where j test (rows ∷ block) none = ap (λ b. map (fact_of j) (cond b (rows ∷ filter test block) (filter test block))) (none 0 rows refl) ∙ none-where j test block (λ n rs at. none (suc n) rs at)

plain-each : (j : JobShape) (a : Aggregate BoundColumn) (block : List (List ℕ)) (ts : List Kept) → length ts ≡ length block → ((n : ℕ) (rows : List ℕ) → slice_get block n ≡ Some rows → IsPlain j a rows (get_or ts n kept.Null)) → AreTakenPlain j a block ts
plain-each j a block ts same each = record { taken = taken-each j a block ts same each; plain = none-where j (over_at j a) block (λ n rows at. (each n rows at).plain) }

-- ---- COUNT(*)

pub counts-plain : (j : JobShape) (block : List (List ℕ)) (ts : List Kept) → length ts ≡ length block → ((n : ℕ) → n < length block → get_or ts n kept.Null ≡ kept.Number (pos 1)) → AreTakenPlain j aggregate.Rows block ts
counts-plain j block ts same each =
    plain-each j aggregate.Rows block ts same (λ n rows at. record {
      taken = subst (λ t. IsTaken j rows aggregate.Rows (record { over = false; total = t })) (sym (each n (slice_get_within block n rows at))) (record { over = refl; alone = refl; kept = tt; ranged = refl });
      plain = refl;
    })

-- ---- a column

-- what stands in a column at one of a block's combinations
module _ (j : JobShape) (r : ColumnRef) (has : has_column j.query j.tables r ≡ true) (block : List (List ℕ)) (cells : List Kept) (combs : All (IsCombination (from_tables j)) block) (are : cells ≡ map (λ rows. cell_in j.tables rows r) block) (n : ℕ) (rows : List ℕ) (at : slice_get block n ≡ Some rows) where
  here : get_or cells n kept.Null ≡ key_cell (from_tables j) rows (bound r)
  here =
      let inside = slice_get_within block n rows at in
      let row : get_or block n [] ≡ rows = get_or_from_slice_get block n rows [] at in
      ap (λ cs. get_or cs n kept.Null) are ∙ get_or-map (λ rows. cell_in j.tables rows r) block n [] kept.Null inside ∙ ap (λ rows. cell_in j.tables rows r) row
      ∙ place-cell j r has rows (subst (IsCombination (from_tables j)) row (combs n [] inside))

  value-here : spelt_cell (values_of j.tables r) (get_or cells n kept.Null) ≡ ref_value j rows r
  value-here = ap₂ spelt_cell (place-values j r has) here ∙ (respells-by (slice_get (from_tables j) r.place) r.column (slice_get rows r.place)).0

  kept-here : IsKept (values_of j.tables r) (get_or cells n kept.Null)
  kept-here = subst (λ vs. IsKept vs (get_or cells n kept.Null)) (sym (place-values j r has)) (subst (IsKept (column_values (from_tables j) (bound r))) (sym here) (respells-by (slice_get (from_tables j) r.place) r.column (slice_get rows r.place)).1)

-- an argument that a kept cell stands for
plain-by : (j : JobShape) (f : SetFunction) (e : Expr BoundColumn) (rows : List ℕ) (values : List Cell) (c t : Kept) → texts_of j (aggregate.Of f e) ≡ texts_by f values → argument (column_value (from_tables j) rows) (aggregate.Of f e) ≡ known (spelt_cell values c)
    → IsKept values c → IsTotalOf values f c t → IsPlain j (aggregate.Of f e) rows t
plain-by j f e rows values c t texts takes kept of = record {
  taken = record {
    over = refl;
    alone = ap (λ vs. spelt_cell vs t) texts ∙ of.spelt e ∙ ap (λ x. agg (aggregate.Of f e) (x ∷ [])) (sym takes);
    kept = subst (λ vs. IsKept vs t) (sym texts) (of.kept kept);
    ranged = subst IsRanged (sym takes) of.ranged;
  };
  plain = ap is_over takes;
}

-- the totals of a column's values
pub values-plain : (j : JobShape) (f : SetFunction) (e : Expr BoundColumn) (r : ColumnRef) (block : List (List ℕ)) (cells ts : List Kept) → has_column j.query j.tables r ≡ true → All (IsCombination (from_tables j)) block → cells ≡ map (λ rows. cell_in j.tables rows r) block
    → AreAlone f cells ts → input_of j.query (aggregate.Of f e) ≡ input.Column r → AreTakenPlain j (aggregate.Of f e) block ts
values-plain j f e r block cells ts has combs are alone is =
    let many = ap length are ∙ length-map block (λ rows. cell_in j.tables rows r) in
    plain-each j (aggregate.Of f e) block ts (alone.many ∙ many) (λ n rows at.
    let inside = slice_get_within block n rows at in
    let values = values_of j.tables r in
    let of = alone.each n (omega (arith, inside, many)) values in
    let takes = sym (input-value j rows (aggregate.Of f e)) ∙ ap (input_value j rows) is ∙ ap column_outcome (sym (value-here j r has block cells combs are n rows at)) ∙ of.outcome in
    plain-by j f e rows values (get_or cells n kept.Null) (get_or ts n kept.Null) (texts-are j f e ∙ ap (λ x. texts_by f (input_texts j.tables x)) is) takes (kept-here j r has block cells combs are n rows at) of)

-- ---- an expression of two columns

pub pairs-plain : (j : JobShape) (f : SetFunction) (e : Expr BoundColumn) (x : Expr ColumnRef) (p : Pair) (block : List (List ℕ)) (left right ts : List Kept) → has_column j.query j.tables p.left ≡ true → has_column j.query j.tables p.right ≡ true
    → All (IsCombination (from_tables j)) block → left ≡ map (λ rows. cell_in j.tables rows p.left) block → right ≡ map (λ rows. cell_in j.tables rows p.right) block → AreApplied p.operation f left right ts
    → input_of j.query (aggregate.Of f e) ≡ input.Number x → IsPairOf x p → AreTakenPlain j (aggregate.Of f e) block ts
pairs-plain j f e x p block left right ts has-left has-right combs left-are right-are applied is pair =
    let many = ap length left-are ∙ length-map block (λ rows. cell_in j.tables rows p.left) in
    plain-each j (aggregate.Of f e) block ts (applied.many ∙ many) (λ n rows at.
    let inside = slice_get_within block n rows at in
    let one = applied.each n (omega (arith, inside, many)) in
    let takes : argument (column_value (from_tables j) rows) (aggregate.Of f e) ≡ known (spelt_cell [] one.cell) =
    sym (input-value j rows (aggregate.Of f e)) ∙ ap (input_value j rows) is ∙ pair.number (ref_value j rows)
    ∙ ap₂ (λ a b. apply (exact p.operation) (column_number a) (column_number b)) (sym (value-here j p.left has-left block left combs left-are n rows at)) (sym (value-here j p.right has-right block right combs right-are n rows at))
    ∙ sym (one.number (values_of j.tables p.left) (values_of j.tables p.right) []) in
    plain-by j f e rows [] one.cell (get_or ts n kept.Null) (texts-are j f e ∙ ap (λ x. texts_by f (input_texts j.tables x)) is) takes (one.kept []) (one.alone []))
