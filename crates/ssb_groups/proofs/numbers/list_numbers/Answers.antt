use Rattle.std.proofs.Common.{◌≡◌, ◌∙◌, Some, length, refl, ap, subst, sym, arith}
use Rattle.std.specs.Vec.{with_items}
use Rattle.std.proofs.lemmas.List.{length-map, with_items_is}
use Rattle.ssb_plan.specs.Inputs.{values_of}
use Rattle.ssb_groups.specs.Refs.{AreCellsOf}
use Rattle.ssb_groups.specs.Tallies.{kept_numbers}
use Rattle.ssb_keys.specs.declared.kept.Kept.TheVariants as kept
use Rattle.ssb_groups.proofs.ColumnFacts.{cells-of-block, table-here, values-here}
use Rattle.ssb_groups.proofs.numbers.list_numbers.Goals as goal

pub returns-clause-cells : goal.returns-clause-cells
returns-clause-cells c = λ yes.
    let tables = c.args.tables.now in
    let r = c.args.column in
    let block = c.args.block.now in
    let v = c.resize.new.self in
    let ns = c.copy_column_numbers.new.numbers in
    let are = c.copy_column_numbers.ensures.values in
    let many = are.many in
    let size = c.as_mut_slice.ensures.len in
    let written : (with_items v ns).items ≡ ns = with_items_is v ns (omega (arith, many, size, length-map ns kept.Number)) in
    let count = size ∙ c.in_ok-resize.ensures.len ∙ c.len.ensures in
    let values : values_of tables r ≡ c.column-column.result.now.values =
    values-here tables (Some r) r c.index-tables-column.result c.column-column.result.now refl (table-here tables r.table c.index-tables-column.result c.requires.column.table c.index-tables-column.is) c.column-column.ensures.column in
    ap kept_numbers written
    ∙ cells-of-block tables r block c.rows-rows.result.now (kept_numbers ns) c.rows-rows.ensures
    (subst (λ vs. AreCellsOf vs c.rows-rows.result.now (length block) (kept_numbers ns)) (sym values) (subst (λ n. AreCellsOf c.column-column.result.now.values c.rows-rows.result.now n (kept_numbers ns)) count are))
