-- What marks tell of the rows that filters of columns test.
use Rattle.std.proofs.Common.{◌≡◌, ◌∙◌, ◌+◌, ◌<◌, ◌≤◌, ◌&&◌, ℕ, ℤ, pos, Bool, true, false, not, List, length, get_or, slice_get, Some, take, drop, filter, refl, sym, ap, subst, arith}
use Rattle.std.specs.List.{All, list_all, range_with_len}
use Rattle.std.proofs.lemmas.List.{take-append-drop}
use Rattle.std.proofs.lemmas.List.Folds.{list_all-append, list_all_more}
use Rattle.std.proofs.lemmas.List.FromFn.{get_or-range_with_len, length-range_with_len}
use Rattle.ssb_cells.specs.Lent.{AreNulls}
use Rattle.ssb_cells.specs.Tables.{Columns, Filled}
use Rattle.ssb_cells.specs.Truth.{is_true}
use Rattle.ssb_packed.specs.Lent.{flag_at}
use Rattle.ssb_sets.specs.Checks.{Serves, passes}
use Rattle.ssb_sets.specs.Marks.{AreMarked, is_between}
use Rattle.ssb_sets.specs.Passing.{passes_at}
use Rattle.ssb_sets.specs.Values.{IsWithin, eight_byte_bounds}
use Rattle.ssb_sets.specs.declared.check.Check.TheVariants as checks
use Rattle.ssb_plan.specs.Filters.{AreEncoded, SaysSame, StandsAt, passes_column}
use Rattle.ssb_plan.specs.declared.column_filter.ColumnFilter.{ColumnFilter}
use Rattle.ssb_plan.proofs.ColumnRows.{apart-says, filter-both}

-- what holds of each row of a range holds of this one
pub at-row : (P : ℕ → Type 0) (from n : ℕ) → All P (range_with_len from n) → (i : ℕ) → i < n → P (from + i)
at-row P from n all i lt = subst P (get_or-range_with_len from n i 0 lt) (all i 0 (let long = length-range_with_len from n in omega (arith, long, lt)))

and-again : (a b c : Bool) → ((a && b) && c) ≡ (a && (b && c))
and-again true b c = refl
and-again false b c = refl

-- ---- one filter

module _ (t : Columns) (f : ColumnFilter) (c : Filled) (vs : List ℤ) (words : List ℕ) (at : slice_get t f.column ≡ Some c) (values : AreEncoded c vs) (nulls : AreNulls c.values words) (serves : Serves f.set.numbers eight_byte_bounds f.check) where
  pub marks-say : (p : ℕ → Bool) (low high : ℤ) (from n : ℕ) (ws : List ℕ) → f.check ≡ checks.Within low high → from + n ≤ length c.values → All (λ r. IsWithin eight_byte_bounds (get_or vs r (pos 0))) (range_with_len from n) → ((r : ℕ) → flag_at words r ≡ true → is_true f.set.null ≡ false)
      → AreMarked (λ r. (p r && passes_at (is_between low high) vs r) && not (flag_at words r)) from n ws → AreMarked (λ r. p r && passes_column t f r) from n ws
  marks-say p low high from n ws is there within fails marked = record {
    each = λ i lt.
        let r = from + i in
        marked.each i lt
        ∙ and-again (p r) (is_between low high (get_or vs r (pos 0))) (not (flag_at words r))
        ∙ ap (λ b. p r && b) (
        ap (λ check. passes check (get_or vs r (pos 0)) && not (flag_at words r)) (sym is)
        ∙ sym (apart-says t f c vs words at values nulls serves r (omega (arith, there, lt)) (at-row (λ k. IsWithin eight_byte_bounds (get_or vs k (pos 0))) from n within i lt) (fails r)));
    none = marked.none;
  }

-- ---- filters of columns, one after another

module _ (t : Columns) (p : ColumnFilter → ℕ → Bool) (fs : List ColumnFilter) (same : All (SaysSame t p) fs) (from n : ℕ) where
  pub marks-more : (f : ColumnFilter) (i : ℕ) (ws : List ℕ) → i < length fs → f ≡ get_or fs i f → All (StandsAt t f.column) (range_with_len from n)
      → AreMarked (λ r. list_all (λ g. p g r) (take i fs) && passes_column t f r) from n ws → AreMarked (λ r. list_all (λ g. p g r) (take (i + 1) fs)) from n ws
  marks-more f i ws lt is stand marked = record {
    each = λ k small.
        let r = from + k in
        marked.each k small
        ∙ ap (λ b. list_all (λ g. p g r) (take i fs) && b) ((subst (SaysSame t p) (sym is) (same i f lt)) r (at-row (StandsAt t f.column) from n stand k small) ∙ ap (λ g. p g r) is)
        ∙ sym (list_all_more (λ g. p g r) fs i f lt);
    none = marked.none;
  }

-- rows of which the first filters were tested, and then the others
pub tested-all : (p : ColumnFilter → ℕ → Bool) (fs rest : List ColumnFilter) (m : ℕ) (rows : List ℕ) → rest ≡ drop m fs
    → filter (λ r. list_all (λ g. p g r) rest) (filter (λ r. list_all (λ g. p g r) (take m fs)) rows) ≡ filter (λ r. list_all (λ g. p g r) fs) rows
tested-all p fs rest m rows is =
    ap (λ gs. filter (λ r. list_all (λ g. p g r) gs) (filter (λ r. list_all (λ g. p g r) (take m fs)) rows)) is
    ∙ filter-both (λ r. list_all (λ g. p g r) (take m fs)) (λ r. list_all (λ g. p g r) (drop m fs)) rows
    ∙ (λ j. filter (λ r. whole r j) rows)
  where
    whole : (r : ℕ) → (list_all (λ g. p g r) (take m fs) && list_all (λ g. p g r) (drop m fs)) ≡ list_all (λ g. p g r) fs
    whole r = sym (list_all-append (λ g. p g r) (take m fs) (drop m fs)) ∙ ap (list_all (λ g. p g r)) (take-append-drop m fs)
