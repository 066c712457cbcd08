-- What the slices that a column lends tell of the rows that a filter tests.
use Rattle.std.proofs.Common.{◌≡◌, ◌∙◌, ◌⊎◌, ⊎_elim, inl, inr, ◌+◌, ◌^◌, zero, suc, ◌<◌, ◌≤◌, ◌<ℤ◌, ◌||◌, ◌&&◌, ℕ, ℤ, pos, Bool, true, false, cond, not, true≢false, List, [], ◌∷◌, length, get_or, Option, None, Some, slice_get, unwrap_or, map, filter, refl, sym, ap, subst, arith}
use Rattle.std.specs.List.{All, range_with_len}
use Rattle.std.specs.Option.{option_map}
use Rattle.std.proofs.lemmas.Bool.{cases_Bool}
use Rattle.std.proofs.lemmas.Int.{ints}
use Rattle.std.proofs.lemmas.List.Elements.{All-cons, All-head, All-nil, All-tail}
use Rattle.std.proofs.lemmas.Option.{none-some, same_Some, slice_get-get_or, slice_get-map}
use Rattle.ssb_cells.specs.Cell.{Cell, null, number, text}
use Rattle.ssb_cells.specs.Codes.{cell_code, code_at, code_of}
use Rattle.ssb_cells.specs.Lent.{AreCodes, AreNulls}
use Rattle.ssb_cells.specs.Tables.{Columns, Filled, cell_in_column}
use Rattle.ssb_cells.specs.Truth.{is_true, truth}
use Rattle.ssb_packed.specs.Lent.{flag_at}
use Rattle.ssb_sets.specs.Checks.{Serves, passes}
use Rattle.ssb_sets.specs.NumberSets.{has}
use Rattle.ssb_sets.specs.Values.{IsWithin, eight_byte_bounds}
use Rattle.ssb_terms.specs.declared.rule.ColType.TheVariants as kinds
use Rattle.ssb_plan.specs.Filters.{AreEncoded, StandsAt, encoded_at, encoded_in, passes_column, told}
use Rattle.ssb_plan.specs.Sets.{Fits, encoded, of_texts}
use Rattle.ssb_plan.specs.declared.column_filter.ColumnFilter.{ColumnFilter}

-- a code that a row has is the number by which its text stands
code-stands : (f : Filled) (i code : ℕ) → f.kind ≡ kinds.Text → code_at f.values i ≡ Some code → encoded f (unwrap_or (slice_get f.values i) null) ≡ Some (pos code)
code-stands f i code kind at = by (slice_get f.values i) at
  where
    by : (o : Option Cell) → cell_code f.values o ≡ Some code → encoded f (unwrap_or o null) ≡ Some (pos code)
    by None e = absurd (none-some code e)
    by (Some null) e = absurd (none-some code e)
    by (Some (number n)) e = absurd (none-some code e)
    by (Some (text t)) e = ap (λ k. of_texts k (code_of f.values t)) kind ∙ ap (option_map pos) e

pub codes-stand : (f : Filled) (cs : List ℕ) → f.kind ≡ kinds.Text → AreCodes f.values cs → AreEncoded f (map pos cs)
codes-stand f cs kind codes = record {
  same = long cs ∙ codes.same;
  each = λ i n at. by i n (slice_get cs i) refl (sym (slice_get-map pos cs i) ∙ at);
}
  where
    long : (xs : List ℕ) → length (map pos xs) ≡ length xs
    long [] = refl
    long (x ∷ xs) = let e = long xs in omega (arith, e)

    by : (i : ℕ) (n : ℤ) (o : Option ℕ) → slice_get cs i ≡ o → option_map pos o ≡ Some n → (slice_get f.values i ≡ Some null) ⊎ (encoded f (unwrap_or (slice_get f.values i) null) ≡ Some n)
    by i n None is at = absurd (none-some n at)
    by i n (Some c) is at = ⊎_elim (λ e. inl e) (λ e. inr (code-stands f i c kind e ∙ at)) (codes.each i c is)

-- ---- filters of lists

pub filter-both : (p q : ℕ → Bool) (xs : List ℕ) → filter q (filter p xs) ≡ filter (λ x. p x && q x) xs
filter-both p q [] = refl
filter-both p q (x ∷ xs) = by (filter-both p q xs) (p x) refl
  where
    by : filter q (filter p xs) ≡ filter (λ y. p y && q y) xs → (b : Bool) → p x ≡ b → filter q (cond (p x) (x ∷ filter p xs) (filter p xs)) ≡ cond (p x && q x) (x ∷ filter (λ y. p y && q y) xs) (filter (λ y. p y && q y) xs)
    by more true e = rw e (ap (λ ys. cond (q x) (x ∷ ys) ys) more)
    by more false e = rw e more

pub filter-alike : (p q : ℕ → Bool) (xs : List ℕ) → All (λ x. p x ≡ q x) xs → filter p xs ≡ filter q xs
filter-alike p q [] same = refl
filter-alike p q (x ∷ xs) same = (λ j. cond (All-head (λ y. p y ≡ q y) x xs same j) (x ∷ filter-alike p q xs (All-tail (λ y. p y ≡ q y) x xs same) j) (filter-alike p q xs (All-tail (λ y. p y ≡ q y) x xs same) j))

-- ---- a row of a column, by the slices

module _ (t : Columns) (f : ColumnFilter) (c : Filled) (vs : List ℤ) (words : List ℕ) (at : slice_get t f.column ≡ Some c) (values : AreEncoded c vs) (nulls : AreNulls c.values words) (serves : Serves f.set.numbers eight_byte_bounds f.check) where
  abbrev stands : ℕ → Option ℤ
  stands r = encoded_at t f.column r

  here : (r : ℕ) → stands r ≡ encoded c (unwrap_or (slice_get c.values r) null)
  here r = ap (λ o. encoded_in o r) at

  is-null : (r : ℕ) → flag_at words r ≡ true → stands r ≡ None
  is-null r flag = here r ∙ ap (λ o. encoded c (unwrap_or o null)) ((nulls r).0 flag)

  is-value : (r : ℕ) → r < length c.values → flag_at words r ≡ false → stands r ≡ Some (get_or vs r (pos 0))
  is-value r lt flag = here r ∙ ⊎_elim
      (λ e. absurd (true≢false (sym ((nulls r).1 e) ∙ flag)))
      (λ e. e)
      (values.each r (get_or vs r (pos 0)) (slice_get-get_or vs r (pos 0) (let same = values.same in omega (arith, same, lt))))

  told-true : (b : Bool) → is_true (truth b) ≡ b
  told-true true = refl
  told-true false = refl

  -- what the filter says of a row that is null, and of one with a value
  pub null-says : (r : ℕ) → flag_at words r ≡ true → passes_column t f r ≡ is_true f.set.null
  null-says r flag = ap (λ o. is_true (told f.set o)) (is-null r flag)

  pub value-says : (r : ℕ) → r < length c.values → flag_at words r ≡ false → IsWithin eight_byte_bounds (get_or vs r (pos 0)) → passes_column t f r ≡ passes f.check (get_or vs r (pos 0))
  value-says r lt flag within =
      ap (λ o. is_true (told f.set o)) (is-value r lt flag) ∙ told-true (has f.set.numbers (get_or vs r (pos 0))) ∙ sym (serves (get_or vs r (pos 0)) within.0 within.1)

  pub row-stands : (r : ℕ) → r < length c.values → (flag_at words r ≡ false → IsWithin eight_byte_bounds (get_or vs r (pos 0))) → StandsAt t f.column r
  row-stands r lt within = record {
    fits = λ n is. ⊎_elim
        (λ flag. absurd (none-some n (sym (is-null r flag) ∙ is)))
        (λ flag. let same : get_or vs r (pos 0) ≡ n = same_Some (get_or vs r (pos 0)) n (sym (is-value r lt flag) ∙ is) in let w = (within flag).1 in let fits : get_or vs r (pos 0) <ℤ pos (2 ^ 63) = omega (arith, ints, w) in subst Fits same fits)
        (cases_Bool (flag_at words r));
    null = λ is. ap (λ o. unwrap_or (cell_in_column o r) null) at ∙ ⊎_elim
        (λ flag. ap (λ o. unwrap_or o null) ((nulls r).0 flag))
        (λ flag. absurd (none-some (get_or vs r (pos 0)) (sym is ∙ is-value r lt flag)))
        (cases_Bool (flag_at words r));
  }

  -- a check of the values, and then a pass over the nulls, where a null does not pass or there is none
  pub apart-says : (r : ℕ) → r < length c.values → IsWithin eight_byte_bounds (get_or vs r (pos 0)) → (flag_at words r ≡ true → is_true f.set.null ≡ false) → passes_column t f r ≡ (passes f.check (get_or vs r (pos 0)) && not (flag_at words r))
  apart-says r lt within fails = ⊎_elim
      (λ flag. null-says r flag ∙ fails flag ∙ sym (never (passes f.check (get_or vs r (pos 0))) (flag_at words r) flag))
      (λ flag. value-says r lt flag within ∙ sym (always (passes f.check (get_or vs r (pos 0))) (flag_at words r) flag))
      (cases_Bool (flag_at words r))
    where
      never : (b flag : Bool) → flag ≡ true → (b && not flag) ≡ false
      never b true e = both b
        where
          both : (b : Bool) → (b && false) ≡ false
          both true = refl
          both false = refl
      never b false e = absurd (true≢false (sym e))

      always : (b flag : Bool) → flag ≡ false → (b && not flag) ≡ b
      always true false e = refl
      always false false e = refl
      always b true e = absurd (true≢false e)

  -- both at once, where a null passes
  pub together-say : (r : ℕ) → r < length c.values → (flag_at words r ≡ false → IsWithin eight_byte_bounds (get_or vs r (pos 0))) → is_true f.set.null ≡ true → passes_column t f r ≡ (flag_at words r || passes f.check (get_or vs r (pos 0)))
  together-say r lt within passing = ⊎_elim
      (λ flag. null-says r flag ∙ passing ∙ sym (ap (λ b. b || passes f.check (get_or vs r (pos 0))) flag))
      (λ flag. value-says r lt flag (within flag) ∙ sym (ap (λ b. b || passes f.check (get_or vs r (pos 0))) flag))
      (cases_Bool (flag_at words r))

  -- ---- many rows

  module _ (rows : List ℕ) (below : All (λ r. r < length c.values) rows) (within : All (λ r. IsWithin eight_byte_bounds (get_or vs r (pos 0))) rows) where
    pub stand-list : All (StandsAt t f.column) rows
    stand-list k d lt = row-stands (get_or rows k d) (below k d lt) (λ flag. within k d lt)

    pub apart-list : ((r : ℕ) → flag_at words r ≡ true → is_true f.set.null ≡ false) → filter (λ r. not (flag_at words r)) (filter (λ r. passes f.check (get_or vs r (pos 0))) rows) ≡ filter (passes_column t f) rows
    apart-list fails =
        filter-both (λ r. passes f.check (get_or vs r (pos 0))) (λ r. not (flag_at words r)) rows
        ∙ sym (filter-alike (passes_column t f) (λ r. passes f.check (get_or vs r (pos 0)) && not (flag_at words r)) rows (λ k d lt. apart-says (get_or rows k d) (below k d lt) (within k d lt) (fails (get_or rows k d))))

    pub together-list : is_true f.set.null ≡ true → filter (λ r. flag_at words r || passes f.check (get_or vs r (pos 0))) rows ≡ filter (passes_column t f) rows
    together-list passing = sym (filter-alike (passes_column t f) (λ r. flag_at words r || passes f.check (get_or vs r (pos 0))) rows (λ k d lt. together-say (get_or rows k d) (below k d lt) (λ flag. within k d lt) passing))

-- ---- the rows of a range

pub range-below : (n a m : ℕ) → a + m ≤ n → All (λ r. r < n) (range_with_len a m)
range-below n a zero le = All-nil (λ r. r < n)
range-below n a (suc m) le = All-cons (λ r. r < n) a (range_with_len (a + 1) m) (omega (arith, le)) (range-below n (a + 1) m (omega (arith, le)))
