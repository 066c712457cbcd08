use Rattle.std.proofs.Common.{◌≡◌, ◌∙◌, true, get_or, map, slice_get, sym, ap, subst}
use Rattle.std.specs.List.{list_all}
use Rattle.std.proofs.lemmas.Option.{get_or_from_slice_get, slice_get-get_or}
use Rattle.ssb_conditions.specs.Rows.{IsCombination}
use Rattle.ssb_plan.specs.Inputs.{column_ref, has_column}
use Rattle.ssb_plan.specs.JobShape.{JobShape, from_tables}
use Rattle.ssb_groups.specs.Keys.{key_of}
use Rattle.ssb_groups.specs.Refs.{HasRow, IsColumn, cell_in}
use Rattle.ssb_groups.proofs.ColumnFacts.{each-there, mapped, mapped-more, nowhere, place-cells, place-row, place-there}
use Rattle.ssb_groups.proofs.columns.Columns.fill.Goals as goal

pub cell_in-requires-clause-column : goal.cell_in-requires-clause-column
cell_in-requires-clause-column c =
    let j : JobShape = c.self.inside.job.value in
    let tables : c.as_slice-tables.result.now ≡ j.tables = c.as_slice-tables.ensures.value ∙ ap (λ v. v.items) c.deref.ensures ∙ c.self.invariant.tables in
    let rs = c.deref-column-items.result.now in
    let i = c.loop-column.column-index in
    let at = ap (λ xs. slice_get xs i) (sym c.deref-column-items.ensures.value) ∙ slice_get-get_or rs i nowhere c.loop-column-test.true in
    subst (λ ts. IsColumn ts (get_or rs i nowhere)) (sym tables) (place-there j (get_or rs i nowhere) (each-there (has_column j.query j.tables) c.self.inside.keys.items i (get_or rs i nowhere) c.self.invariant.there at))

pub cell_in-requires-clause-row : goal.cell_in-requires-clause-row
cell_in-requires-clause-row c =
    let j : JobShape = c.self.inside.job.value in
    let rows = c.args.row.now in
    let tables : c.as_slice-tables.result.now ≡ j.tables = c.as_slice-tables.ensures.value ∙ ap (λ v. v.items) c.deref.ensures ∙ c.self.invariant.tables in
    let is : IsCombination (from_tables j) rows = subst (λ x. IsCombination (from_tables x) rows) (sym c.self.view_is) c.requires in
    let rs = c.deref-column-items.result.now in
    let i = c.loop-column.column-index in
    let r = get_or rs i nowhere in
    let at = ap (λ xs. slice_get xs i) (sym c.deref-column-items.ensures.value) ∙ slice_get-get_or rs i nowhere c.loop-column-test.true in
    let has = each-there (has_column j.query j.tables) c.self.inside.keys.items i r c.self.invariant.there at in
    subst (λ ts. HasRow ts c.as_slice-rows.result.now r) (sym tables) (subst (λ ns. HasRow j.tables ns r) (sym c.as_slice-rows.ensures) (place-row j r has rows is))

pub returns : goal.returns
returns c =
    let j : JobShape = c.self.inside.job.value in
    let rows = c.args.row.now in
    let tables : c.as_slice-tables.result.now ≡ j.tables = c.as_slice-tables.ensures.value ∙ ap (λ v. v.items) c.deref.ensures ∙ c.self.invariant.tables in
    let rs : c.deref-column-items.result.now ≡ map (column_ref j.query) j.query.groups = c.deref-column-items.ensures.value ∙ c.self.invariant.keys in
    let is : IsCombination (from_tables j) rows = subst (λ x. IsCombination (from_tables x) rows) (sym c.self.view_is) c.requires in
    let there = subst (λ xs. list_all (has_column j.query j.tables) xs ≡ true) c.self.invariant.keys c.self.invariant.there in
    let all = mapped (cell_in c.as_slice-tables.result.now c.as_slice-rows.result.now) c.loop-column.cells.items c.deref-column-items.result.now c.loop-column.column-index c.loop-column-test.false c.loop-column.invariant in
    all ∙ ap (λ ts. map (cell_in ts c.as_slice-rows.result.now) c.deref-column-items.result.now) tables ∙ ap (λ ns. map (cell_in j.tables ns) c.deref-column-items.result.now) c.as_slice-rows.ensures
    ∙ ap (map (cell_in j.tables rows)) rs ∙ place-cells j rows j.query.groups there is ∙ ap (λ x. key_of x rows) c.self.view_is

pub loop-column-preserved : goal.loop-column-preserved
loop-column-preserved c =
    let rs = c.deref-column-items.result.now in
    let i = c.loop-column.column-index in
    let r = get_or rs i nowhere in
    let tables = c.as_slice-tables.result.now in
    let rows = c.as_slice-rows.result.now in
    let here = sym (get_or_from_slice_get rs i r r (slice_get-get_or rs i nowhere c.loop-column-test.true)) in
    let made = mapped-more (cell_in tables rows) c.loop-column.cells.items rs i r c.cell_in.result c.loop-column-test.true here c.cell_in.ensures.value c.loop-column.invariant in
    rw c.in_ok-push.ensures.items made
