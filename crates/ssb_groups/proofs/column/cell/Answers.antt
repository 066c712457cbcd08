use Rattle.std.proofs.Common.{◌≡◌, ◌∙◌, sym, ap, ap₂, subst}
use Rattle.std.specs.Prelude.{slice_get}
use Rattle.ssb_plan.specs.JobShape.{from_tables}
use Rattle.ssb_groups.specs.Keys.{IsKept, column_values, key_cell, spelt_cell}
use Rattle.ssb_groups.specs.Refs.{HasRow, IsColumn, bound, cell_in}
use Rattle.ssb_groups.proofs.ColumnFacts.{place-cell, place-row, place-there, place-values, respells-by}
use Rattle.ssb_groups.proofs.column.cell.Goals as goal

pub cell_in-requires-clause-column : goal.cell_in-requires-clause-column
cell_in-requires-clause-column c =
    let tables = c.deref-2.ensures.value ∙ ap (λ v. v.items) c.deref.ensures ∙ c.tables.ensures in
    subst (λ ts. IsColumn ts c.args.column) (sym tables) (place-there c.args.job.now c.args.column c.requires.there)

pub cell_in-requires-clause-row : goal.cell_in-requires-clause-row
cell_in-requires-clause-row c =
    let j = c.args.job.now in
    let tables = c.deref-2.ensures.value ∙ ap (λ v. v.items) c.deref.ensures ∙ c.tables.ensures in
    subst (λ ts. HasRow ts c.as_slice.result.now c.args.column) (sym tables) (subst (λ rs. HasRow j.tables rs c.args.column) (sym c.as_slice.ensures) (place-row j c.args.column c.requires.there c.args.row.now c.requires.row))

-- the cell that is read there is the one of the combination
here : (c : goal.After-cell_in) → c.cell_in.result ≡ key_cell (from_tables c.args.job.now) c.args.row.now (bound c.args.column)
here c =
    let j = c.args.job.now in
    let tables = c.deref-2.ensures.value ∙ ap (λ v. v.items) c.deref.ensures ∙ c.tables.ensures in
    c.cell_in.ensures.value ∙ ap₂ (λ ts rs. cell_in ts rs c.args.column) tables c.as_slice.ensures ∙ place-cell j c.args.column c.requires.there c.args.row.now c.requires.row

pub returns-clause-value : goal.returns-clause-value
returns-clause-value c =
    let r = c.args.column in
    ap₂ spelt_cell (place-values c.args.job.now r c.requires.there) (here c) ∙ (respells-by (slice_get (from_tables c.args.job.now) r.place) r.column (slice_get c.args.row.now r.place)).0

pub returns-clause-kept : goal.returns-clause-kept
returns-clause-kept c =
    let j = c.args.job.now in
    let r = c.args.column in
    subst (λ v. IsKept v c.cell_in.result) (sym (place-values j r c.requires.there)) (subst (IsKept (column_values (from_tables j) (bound r))) (sym (here c)) (respells-by (slice_get (from_tables j) r.place) r.column (slice_get c.args.row.now r.place)).1)
