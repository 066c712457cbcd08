-- What the filters of a table's columns and the conjuncts that are evaluated say together.
use Rattle.std.proofs.Common.{◌≡◌, ◌∙◌, ◌<◌, ◌≤◌, ◌+◌, ◌&&◌, ◌||◌, ℕ, ℤ, Bool, true, false, cond, not, is_some, List, [], ◌∷◌, length, get_or, Option, None, Some, slice_get, unwrap_or, map, filter, take, suc, refl, sym, ap, subst, arith}
use Rattle.std.specs.List.{All, list_all, range_with_len}
use Rattle.std.specs.Bool.{◌==◌}
use Rattle.std.proofs.lemmas.List.{take_all}
use Rattle.std.proofs.lemmas.List.FromFn.{get_or-range_with_len, length-range_with_len}
use Rattle.std.proofs.lemmas.List.Folds.{list_all_more}
use Rattle.ssb_cells.specs.Cell.{null}
use Rattle.ssb_cells.specs.Tables.{Columns, Filled, cell_at, cell_in_column}
use Rattle.ssb_cells.specs.Truth.{all_of, and, is_true}
use Rattle.ssb_cells.specs.declared.truth.Truth.{Truth}
use Rattle.ssb_cells.specs.declared.truth.Truth.TheVariants.{True, False, Unknown}
use Rattle.ssb_query.specs.declared.column.BoundColumn.{BoundColumn}
use Rattle.ssb_trees.specs.Conditions.{Filter}
use Rattle.ssb_trees.specs.declared.operand.Operand.TheVariants as operand
use Rattle.ssb_plan.specs.Filters.{IsColumnFilter, IsTableFilter, SaysSame, StandsAt, asked_column, asked_of, encoded_at, encoded_in, is_evaluated, own_column, passes, passes_column, told}
use Rattle.ssb_conditions.specs.Holds.{holds}
use Rattle.ssb_conditions.specs.Met.{all_true, is_met}
use Rattle.ssb_plan.specs.Only.{alone_at, only_at}
use Rattle.ssb_conditions.specs.Rows.{RowValuation, cell_by, value}
use Rattle.ssb_plan.specs.Sets.{encoded, sole_column}
use Rattle.ssb_plan.specs.declared.column_filter.ColumnFilter.{ColumnFilter}
use Rattle.ssb_plan.specs.declared.table_filter.TableFilter.{TableFilter}
use Rattle.ssb_plan.proofs.Own.{alone_here}
use Rattle.ssb_plan.proofs.ColumnRows.{filter-alike, filter-both}

-- no conjunct is evaluated
pub no-others : (cs : List (Filter BoundColumn)) → (length cs == 0) ≡ true → cs ≡ []
no-others [] e = refl
no-others (c ∷ cs) e = let bad : suc (length cs) ≡ 0 = grind (arith, e) in absurd (omega (arith, bad))

pub filter-true : (xs : List ℕ) → filter (λ x. true) xs ≡ xs
filter-true [] = refl
filter-true (x ∷ xs) = ap (λ ys. x ∷ ys) (filter-true xs)

pub filter-others : (v : ℕ → RowValuation) (cs : List (Filter BoundColumn)) → cs ≡ [] → (rows : List ℕ) → rows ≡ filter (λ r. all_true (v r) cs) rows
filter-others v cs none rows = sym (ap (λ ds. filter (λ r. all_true (v r) ds) rows) none ∙ filter-true rows)

-- ---- filters of columns, one after another

module _ (t : Columns) (p : ColumnFilter → ℕ → Bool) (fs : List ColumnFilter) (same : All (SaysSame t p) fs) where
  -- a filter keeps the rows that its test does
  one-same : (f : ColumnFilter) (i : ℕ) → i < length fs → f ≡ get_or fs i f → (rows : List ℕ) → All (StandsAt t f.column) rows → filter (passes_column t f) rows ≡ filter (p f) rows
  one-same f i lt is rows stand = filter-alike (passes_column t f) (p f) rows (λ k d below. (subst (SaysSame t p) (sym is) (same i f lt)) (get_or rows k d) (stand k d below))

  pub one-more : (f : ColumnFilter) (i : ℕ) → i < length fs → f ≡ get_or fs i f → (initial rows : List ℕ) → rows ≡ filter (λ r. list_all (λ g. p g r) (take i fs)) initial → All (StandsAt t f.column) rows
      → filter (passes_column t f) rows ≡ filter (λ r. list_all (λ g. p g r) (take (i + 1) fs)) initial
  one-more f i lt is initial rows before stand =
      one-same f i lt is rows stand
      ∙ ap (filter (p f)) before
      ∙ filter-both (λ r. list_all (λ g. p g r) (take i fs)) (p f) initial
      ∙ (λ j. filter (λ r. step r j) initial)
    where
      step : (r : ℕ) → (list_all (λ g. p g r) (take i fs) && p f r) ≡ list_all (λ g. p g r) (take (i + 1) fs)
      step r = ap (λ g. list_all (λ h. p h r) (take i fs) && p g r) is ∙ sym (list_all_more (λ g. p g r) fs i f lt)

pub all-taken : (p : ColumnFilter → ℕ → Bool) (fs : List ColumnFilter) (i : ℕ) (initial : List ℕ) → length fs ≤ i → filter (λ r. list_all (λ g. p g r) (take i fs)) initial ≡ filter (λ r. list_all (λ g. p g r) fs) initial
all-taken p fs i initial past = ap (λ gs. filter (λ r. list_all (λ g. p g r) gs) initial) (take_all i fs past)

pub range-below : (a n end : ℕ) → a + n ≤ end → All (λ r. r < end) (range_with_len a n)
range-below a n end below k d lt =
    let long = length-range_with_len a n in
    let at = get_or-range_with_len a n k d (omega (arith, long, lt)) in
    omega (arith, below, long, lt, at)

-- ---- what a filter of a column says of a row

is_true-and : (a b : Truth) → is_true (and a b) ≡ (is_true a && is_true b)
is_true-and True b = refl
is_true-and False b = refl
is_true-and Unknown True = refl
is_true-and Unknown False = refl
is_true-and Unknown Unknown = refl

all-true : (v : RowValuation) (cs : List (Filter BoundColumn)) → is_true (all_of (map (holds v) cs)) ≡ all_true v cs
all-true v [] = refl
all-true v (c ∷ cs) = is_true-and (holds v c) (all_of (map (holds v) cs)) ∙ ap (λ b. is_met v c && b) (all-true v cs)

-- ---- conjuncts that a column's filter tests, and those that are evaluated

module _ (v : RowValuation) (place count : ℕ) where
  abbrev asked : Filter BoundColumn → Bool
  asked c = is_some (asked_column place count c)

  -- a conjunct that is tested by a column reads this table alone
  conjunct-apart : (own met : Bool) (o : Option ℕ) (rest asked-rest others-rest : Bool) → rest ≡ (asked-rest && others-rest)
      → ((not own || met) && rest) ≡ (cond (is_some (cond own o None)) (met && asked-rest) asked-rest && cond (own && not (is_some (cond own o None))) (met && others-rest) others-rest)
  conjunct-apart false met o rest a b e = e
  conjunct-apart true met (Some n) rest a b e = by met
    where
      by : (met : Bool) → (met && rest) ≡ ((met && a) && b)
      by true = e
      by false = refl
  conjunct-apart true met None rest a b e = by met a e
    where
      by : (met a : Bool) → rest ≡ (a && b) → (met && rest) ≡ (a && (met && b))
      by true a e = e
      by false true e = refl
      by false false e = refl

  all-cond : (b : Bool) (c : Filter BoundColumn) (cs : List (Filter BoundColumn)) → all_true v (cond b (c ∷ cs) cs) ≡ cond b (is_met v c && all_true v cs) (all_true v cs)
  all-cond true c cs = refl
  all-cond false c cs = refl

  pub conjuncts-apart : (cs : List (Filter BoundColumn)) → list_all (λ c. not (only_at place c) || is_met v c) cs ≡ (all_true v (filter asked cs) && all_true v (filter (is_evaluated place count) cs))
  conjuncts-apart [] = refl
  conjuncts-apart (c ∷ cs) =
      conjunct-apart (only_at place c) (is_met v c) (own_column place count (sole_column c)) _ _ _ (conjuncts-apart cs)
      ∙ sym (λ j. all-cond (asked c) c (filter asked cs) j && all-cond (is_evaluated place count c) c (filter (is_evaluated place count) cs) j)

-- ---- rows

-- the values of a row alone
abbrev pub row-value : List Columns → ℕ → ℕ → RowValuation
row-value tables place r = value tables (alone_at place r)

-- whether a row meets the conjuncts that are tested by a column
abbrev pub meets-column : List Columns → Columns → ℕ → List (Filter BoundColumn) → ColumnFilter → ℕ → Bool
meets-column tables t place cs f r = all_true (row-value tables place r) (asked_of place (length t) f.column cs)

module _ (tables : List Columns) (t : Columns) (place : ℕ) (few : place < 8) (here : slice_get tables place ≡ Some t) (cs : List (Filter BoundColumn)) where
  own-value : (column r : ℕ) → row-value tables place r (operand.Column (record { table = place; column = column })) ≡ unwrap_or (cell_at t column r) null
  own-value column r = ap (λ o. cell_by o column (slice_get (alone_at place r) place)) here ∙ ap (cell_by (Some t) column) (alone_here place r few)

  pub column-same : (f : ColumnFilter) → IsColumnFilter t place cs f → SaysSame t (meets-column tables t place cs) f
  column-same f is r stands = by (encoded_at t f.column r) refl
    where
      c : Filled
      c = is.there.0

      cell-here : row-value tables place r (operand.Column (record { table = place; column = f.column })) ≡ unwrap_or (slice_get c.values r) null
      cell-here = own-value f.column r ∙ ap (λ o. unwrap_or (cell_in_column o r) null) is.there.1

      code-here : encoded_at t f.column r ≡ encoded c (unwrap_or (slice_get c.values r) null)
      code-here = ap (λ o. encoded_in o r) is.there.1

      by : (o : Option ℤ) → encoded_at t f.column r ≡ o → passes_column t f r ≡ meets-column tables t place cs f r
      by None e =
          ap (λ o. is_true (told f.set o)) e
          ∙ sym (ap is_true ((is.tells c is.there.1).nulls (row-value tables place r) (λ l. refl) (own-value f.column r ∙ stands.null e)))
          ∙ all-true (row-value tables place r) (asked_of place (length t) f.column cs)
      by (Some n) e =
          ap (λ o. is_true (told f.set o)) e
          ∙ sym (ap is_true ((is.tells c is.there.1).values (row-value tables place r) n (λ l. refl) (ap (encoded c) cell-here ∙ sym code-here ∙ e) (stands.fits n e)))
          ∙ all-true (row-value tables place r) (asked_of place (length t) f.column cs)

  module _ (f : TableFilter) (is : IsTableFilter t place cs f) where
    pub columns-same : All (SaysSame t (meets-column tables t place cs)) f.columns.items
    columns-same k d lt = column-same (get_or f.columns.items k d) (is.columns k d lt)

    row-passes : (r : ℕ) → (list_all (λ g. meets-column tables t place cs g r) f.columns.items && all_true (row-value tables place r) f.others.items) ≡ passes tables place cs r
    row-passes r =
        (λ j. is.each (row-value tables place r) j && ap (all_true (row-value tables place r)) is.others j)
        ∙ sym (conjuncts-apart (row-value tables place r) place (length t) cs)

    -- the columns' filters, and then the conjuncts that are evaluated
    pub both-pass : (rows left : List ℕ) → left ≡ filter (λ r. list_all (λ g. meets-column tables t place cs g r) f.columns.items) rows
        → filter (λ r. all_true (row-value tables place r) f.others.items) left ≡ filter (passes tables place cs) rows
    both-pass rows left is-left =
        ap (filter (λ r. all_true (row-value tables place r) f.others.items)) is-left
        ∙ filter-both (λ r. list_all (λ g. meets-column tables t place cs g r) f.columns.items) (λ r. all_true (row-value tables place r) f.others.items) rows
        ∙ (λ j. filter (λ r. row-passes r j) rows)
