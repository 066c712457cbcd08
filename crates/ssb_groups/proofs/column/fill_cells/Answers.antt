use Rattle.std.proofs.Common.{◌≡◌, ◌∙◌, OnOk, Some, map, length, refl, ap, subst, sym, slice_get}
use Rattle.ssb_plan.specs.Inputs.{values_of}
use Rattle.ssb_groups.specs.Keys.{AreOfKind, kind_in, kind_of}
use Rattle.ssb_groups.specs.Refs.{AreCellsOf, cell_in}
use Rattle.ssb_groups.proofs.ColumnFacts.{cells-of-block, ok-map, table-here, values-here}
use Rattle.ssb_groups.proofs.column.fill_cells.Goals as goal

pub returns-clause-cells : goal.returns-clause-cells
returns-clause-cells c =
    let tables = c.args.tables.now in
    let r = c.args.column in
    let block = c.args.block.now in
    let values : values_of tables r ≡ c.column.result.now.values =
    values-here tables (Some r) r c.index-tables-column.result c.column.result.now refl (table-here tables r.table c.index-tables-column.result c.requires.column.table c.index-tables-column.is) c.column.ensures.column in
    ok-map c.fill.result (AreCellsOf c.column.result.now.values c.rows-rows.result.now c.len.result c.fill.new.cells.items) (c.fill.new.cells.items ≡ map (λ rows. cell_in tables rows r) block)
    (λ are. cells-of-block tables r block c.rows-rows.result.now c.fill.new.cells.items c.rows-rows.ensures
    (subst (λ vs. AreCellsOf vs c.rows-rows.result.now (length block) c.fill.new.cells.items) (sym values) (subst (λ n. AreCellsOf c.column.result.now.values c.rows-rows.result.now n c.fill.new.cells.items) c.len.ensures are))) c.fill.ensures.values

pub returns-clause-kinds : goal.returns-clause-kinds
returns-clause-kinds c =
    let tables = c.args.tables.now in
    let r = c.args.column in
    let here = table-here tables r.table c.index-tables-column.result c.requires.column.table c.index-tables-column.is in
    let kind : kind_of tables r ≡ c.column.result.now.kind = ap (λ t. kind_in (slice_get t r.column)) here ∙ ap kind_in c.column.ensures.column in
    subst (λ k. OnOk c.fill.result (AreOfKind k c.fill.new.cells.items)) (sym kind) c.fill.ensures.kinds
