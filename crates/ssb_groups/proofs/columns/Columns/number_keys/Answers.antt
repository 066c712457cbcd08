use Rattle.std.proofs.Common.{◌≡◌, ◌∙◌, ◌<◌, ◌^◌, ◌+◌, ◌*◌, ◌-◌, ℕ, pos, suc, true, List, [], length, get_or, map, refl, ap, subst, sym, arith}
use Rattle.std.specs.List.{list_all}
use Rattle.std.specs.Vec.{with_items}
use Rattle.std.proofs.lemmas.List.{get_or-map, length-map, with_items_is}
use Rattle.std.proofs.lemmas.Option.{get_or_from_slice_get, slice_get-get_or, slice_get_within}
use Rattle.ssb_cells.specs.Tables.{Columns}
use Rattle.ssb_conditions.specs.Rows.{IsCombination}
use Rattle.ssb_keys.specs.Domains.{HasDigit, IsIn, digit, radix}
use Rattle.ssb_keys.specs.declared.domain.Domain.{Domain}
use Rattle.ssb_keys.specs.declared.domain.Domain.TheVariants as domain
use Rattle.ssb_keys.specs.declared.kept.Kept.{Kept}
use Rattle.ssb_keys.specs.declared.kept.Kept.TheVariants as kept
use Rattle.ssb_plan.specs.Inputs.{column_ref, has_column}
use Rattle.ssb_plan.specs.JobShape.{JobShape, from_tables}
use Rattle.ssb_plan.specs.declared.input.ColumnRef.{ColumnRef}
use Rattle.ssb_groups.specs.Digits.{AddsCell}
use Rattle.ssb_groups.specs.Keys.{HasDomains, HasNumbers, IsOfKind, domain_of, domains_of, key_cell, key_of, kind_of}
use Rattle.ssb_groups.specs.Refs.{HasRow, IsColumn, cell_in}
use Rattle.ssb_groups.proofs.ColumnFacts.{each-there, nowhere, place-cells, place-row, place-there}
use Rattle.ssb_groups.proofs.NumberedKeys.{IsNumberFrom, has-room, one-more}
use Rattle.ssb_groups.proofs.ValueDomains.{cell-is-in}
use Rattle.ssb_groups.proofs.columns.Columns.number_keys.Goals as goal

-- the columns of the keys are those of the job
record AreRefs (j : JobShape) (tables : List Columns) (rs : List ColumnRef) : Type 0 where
  tables_are : tables ≡ j.tables
  refs_are : rs ≡ map (column_ref j.query) j.query.groups
  there : list_all (has_column j.query j.tables) rs ≡ true

module _ (j : JobShape) (tables : List Columns) (rs : List ColumnRef) (are : AreRefs j tables rs) (at : ℕ) (d : ColumnRef) (lt : at < length rs) where
  has : has_column j.query j.tables (get_or rs at d) ≡ true
  has = each-there (has_column j.query j.tables) rs at (get_or rs at d) are.there (slice_get-get_or rs at d lt)

  column-there : IsColumn tables (get_or rs at d)
  column-there = subst (λ ts. IsColumn ts (get_or rs at d)) (sym are.tables_are) (place-there j (get_or rs at d) has)

  row-there : (rows : List ℕ) → IsCombination (from_tables j) rows → HasRow tables rows (get_or rs at d)
  row-there rows is = subst (λ ts. HasRow ts rows (get_or rs at d)) (sym are.tables_are) (place-row j (get_or rs at d) has rows is)

  -- the cell at a place of a key is that of its column
  cell-at : (rows : List ℕ) (x : Kept) → IsCombination (from_tables j) rows → get_or (key_of j rows) at x ≡ cell_in tables rows (get_or rs at d)
  cell-at rows x is =
      ap (λ cs. get_or cs at x) (sym (place-cells j rows j.query.groups (subst (λ qs. list_all (has_column j.query j.tables) qs ≡ true) are.refs_are are.there) is))
      ∙ ap (λ qs. get_or (map (cell_in j.tables rows) qs) at x) (sym are.refs_are) ∙ get_or-map (cell_in j.tables rows) rs at d x lt ∙ ap (λ ts. cell_in ts rows (get_or rs at d)) (sym are.tables_are)

  domain-at : (x : Domain) → get_or (domains_of j) at x ≡ domain_of tables (get_or rs at d)
  domain-at x = ap (λ qs. get_or (map (domain_of j.tables) qs) at x) (sym are.refs_are) ∙ get_or-map (domain_of j.tables) rs at d x lt ∙ ap (λ ts. domain_of ts (get_or rs at d)) (sym are.tables_are)

  -- the digit of a value there, below those of the columns behind it
  module _ (rows : List ℕ) (n : ℕ) (c : Kept) (is : IsCombination (from_tables j) rows) (cell : c ≡ cell_in tables rows (get_or rs at d)) (kind : IsOfKind (kind_of tables (get_or rs at d)) c) (before : IsNumberFrom (domains_of j) (suc at) (key_of j rows) n) (x : Domain) where
    among : IsIn (get_or (domains_of j) at x) c
    among =
        subst (λ e. IsIn e c) (sym (domain-at x))
        (subst (IsIn (domain_of tables (get_or rs at d))) (sym cell) (cell-is-in tables rows (get_or rs at d) (subst (IsOfKind (kind_of tables (get_or rs at d))) cell kind)))

    same-cell : get_or (key_of j rows) at kept.Null ≡ c
    same-cell = cell-at rows kept.Null is ∙ sym cell

    below : (at < length (domains_of j)) × (at < length (key_of j rows))
    below =
        let refs = ap length are.refs_are in
        let groups = length-map j.query.groups (column_ref j.query) in
        let domains = length-map (map (column_ref j.query) j.query.groups) (domain_of j.tables) in
        let keys = length-map j.query.groups (key_cell (from_tables j) rows) in
        (omega (arith, lt, refs, domains), omega (arith, lt, refs, groups, keys))

    after-digit : IsNumberFrom (domains_of j) at (key_of j rows) (n * radix (get_or (domains_of j) at x) + digit (get_or (domains_of j) at x) c)
    after-digit =
        subst (λ y. IsNumberFrom (domains_of j) at (key_of j rows) (n * radix (get_or (domains_of j) at x) + digit (get_or (domains_of j) at x) y)) same-cell
        (one-more (domains_of j) (key_of j rows) at n x kept.Null below.0 below.1 before (subst (IsIn (get_or (domains_of j) at x)) (sym same-cell) among))

    room : HasNumbers j → HasDigit (get_or (domains_of j) at x) n c
    room few = record {
      there = among;
      room = has-room j.tables (map (column_ref j.query) j.query.groups) (key_of j rows) at _ (2 ^ 62) after-digit few;
    }

-- the same of the job that the columns are seen as
refs : (i j : JobShape) (tables : List Columns) (rs qs : List ColumnRef) → i ≡ j → tables ≡ i.tables → qs ≡ rs → rs ≡ map (column_ref i.query) i.query.groups → list_all (has_column i.query i.tables) rs ≡ true → AreRefs j tables qs
refs i j tables rs qs same ts kept is there =
    subst (λ (k : JobShape). AreRefs k tables qs) same (record {
      tables_are = ts;
      refs_are = kept ∙ is;
      there = subst (λ xs. list_all (has_column i.query i.tables) xs ≡ true) (sym kept) there;
    })

within : (j : JobShape) (tables : List Columns) (rs : List ColumnRef) (ds : List Domain) (done : ℕ) → AreRefs j tables rs → HasDomains j ds → done < length ds → length ds - 1 - done < length rs
within j tables rs ds done are domains lt =
    let same = ap length are.refs_are in
    let all = ap length domains.domains in
    omega (arith, same, all, lt, length-map (map (column_ref j.query) j.query.groups) (domain_of j.tables))

pub add_column-requires-clause-column : goal.add_column-requires-clause-column
add_column-requires-clause-column c =
    let are = (refs c.self.inside.job.value c.args.self.now c.as_slice-tables.result.now c.self.inside.keys.items c.as_slice-keys.result.now c.self.view_is (c.as_slice-tables.ensures.value ∙ ap (λ v. v.items) c.deref.ensures ∙ c.self.invariant.tables) c.as_slice-keys.ensures.value c.self.invariant.keys c.self.invariant.there) in
    column-there c.args.self.now c.as_slice-tables.result.now c.as_slice-keys.result.now are (length c.args.domains.now - 1 - c.loop-done.done) nowhere (within c.args.self.now c.as_slice-tables.result.now c.as_slice-keys.result.now c.args.domains.now c.loop-done.done are c.requires.domains c.loop-done-test.true)

pub add_column-requires-clause-rows : goal.add_column-requires-clause-rows
add_column-requires-clause-rows c = λ k d lt.
    let are = (refs c.self.inside.job.value c.args.self.now c.as_slice-tables.result.now c.self.inside.keys.items c.as_slice-keys.result.now c.self.view_is (c.as_slice-tables.ensures.value ∙ ap (λ v. v.items) c.deref.ensures ∙ c.self.invariant.tables) c.as_slice-keys.ensures.value c.self.invariant.keys c.self.invariant.there) in
    row-there c.args.self.now c.as_slice-tables.result.now c.as_slice-keys.result.now are (length c.args.domains.now - 1 - c.loop-done.done) nowhere (within c.args.self.now c.as_slice-tables.result.now c.as_slice-keys.result.now c.args.domains.now c.loop-done.done are c.requires.domains c.loop-done-test.true) (get_or c.args.block.now k d) (c.requires.rows k d lt)

-- a number before and after its next digit
next : (j : JobShape) (tables : List Columns) (rs : List ColumnRef) (ds : List Domain) (are : AreRefs j tables rs) (at from : ℕ) (lt : at < length rs) (step : from ≡ suc at) (domains : HasDomains j ds) (rows : List ℕ) (before after : ℕ)
    → IsCombination (from_tables j) rows → IsNumberFrom (domains_of j) from (key_of j rows) before → AddsCell tables (get_or rs at nowhere) (get_or ds at (domain.Numbers (pos 0) 0)) rows before after
    → IsNumberFrom (domains_of j) at (key_of j rows) after
next j tables rs ds are at from lt step domains rows before after comb from-before adds =
    let x : Domain = domain.Numbers (pos 0) 0 in
    let c = cell_in tables rows (get_or rs at nowhere) in
    let was = subst (λ k. IsNumberFrom (domains_of j) k (key_of j rows) before) step from-before in
    let has : HasDigit (get_or ds at x) before c = subst (λ es. HasDigit (get_or es at x) before c) (sym domains.domains) (room j tables rs are at nowhere lt rows before c comb refl adds.kind_is was x domains.few) in
    subst (IsNumberFrom (domains_of j) at (key_of j rows)) (sym (adds.digit_is has))
    (subst (λ es. IsNumberFrom (domains_of j) at (key_of j rows) (before * radix (get_or es at x) + digit (get_or es at x) c)) (sym domains.domains) (after-digit j tables rs are at nowhere lt rows before c comb refl adds.kind_is was x))

pub loop-done-preserved : goal.loop-done-preserved
loop-done-preserved c =
    let j = c.args.self.now in
    let block = c.args.block.now in
    let at = length c.args.domains.now - 1 - c.loop-done.done in
    let tables = c.as_slice-tables.result.now in
    let rs = c.as_slice-keys.result.now in
    let are = (refs c.self.inside.job.value c.args.self.now c.as_slice-tables.result.now c.self.inside.keys.items c.as_slice-keys.result.now c.self.view_is (c.as_slice-tables.ensures.value ∙ ap (λ v. v.items) c.deref.ensures ∙ c.self.invariant.tables) c.as_slice-keys.ensures.value c.self.invariant.keys c.self.invariant.there) in
    let lt-at = within j tables rs c.args.domains.now c.loop-done.done are c.requires.domains c.loop-done-test.true in
    let v = c.loop-done.numbers in
    let x = c.add_column.new.keys in
    let from : length c.args.domains.now - c.loop-done.done ≡ suc at = omega (arith, c.loop-done-test.true) in
    let to : at ≡ length c.args.domains.now - (c.loop-done.done + 1) = omega (arith, c.loop-done-test.true) in
    let kept = c.add_column.ensures.many in
    let was = ap length c.as_mut_slice.ensures.value in
    let long = v.ok.0 in
    let written : (with_items v x).items ≡ x = with_items_is v x (omega (arith, kept, was, long)) in
    record {
      many = ap length written ∙ kept ∙ was ∙ c.loop-done.invariant.many;
      each = λ n rows there.
          let inside = slice_get_within block n rows there in
          let row : get_or block n [] ≡ rows = get_or_from_slice_get block n rows [] there in
          let comb : IsCombination (from_tables j) rows = subst (IsCombination (from_tables j)) row (c.requires.rows n [] inside) in
          let before = subst (λ ns. IsNumberFrom (domains_of j) (length c.args.domains.now - c.loop-done.done) (key_of j rows) (get_or ns n 0)) (sym c.as_mut_slice.ensures.value) (c.loop-done.invariant.each n rows there) in
          subst (λ ns. IsNumberFrom (domains_of j) (length c.args.domains.now - (c.loop-done.done + 1)) (key_of j rows) (get_or ns n 0)) (sym written)
          (subst (λ k. IsNumberFrom (domains_of j) k (key_of j rows) (get_or x n 0)) to
          (next j tables rs c.args.domains.now are at (length c.args.domains.now - c.loop-done.done) lt-at from c.requires.domains rows (get_or c.as_mut_slice.result.now n 0) (get_or x n 0) comb before (c.add_column.ensures.digits n rows there)));
    }
