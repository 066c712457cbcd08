use Rattle.std.proofs.Common.{◌≡◌, ◌∙◌, Some, length, refl, ap, subst, sym, arith}
use Rattle.std.specs.Vec.{with_items}
use Rattle.std.proofs.lemmas.List.{length-map, with_items_is}
use Rattle.ssb_plan.specs.Inputs.{values_of}
use Rattle.ssb_groups.specs.Refs.{AreCellsOf}
use Rattle.ssb_groups.specs.Tallies.{kept_codes}
use Rattle.ssb_keys.specs.declared.kept.Kept.TheVariants as kept
use Rattle.ssb_groups.proofs.ColumnFacts.{cells-of-block, table-here, values-here}
use Rattle.ssb_groups.proofs.numbers.list_codes.Goals as goal

pub returns : goal.returns
returns c = λ yes.
    let tables = c.args.tables.now in
    let r = c.args.column in
    let block = c.args.block.now in
    let v = c.resize.new.self in
    let ns = c.copy_column_codes.new.codes in
    let are = c.copy_column_codes.ensures in
    let many = are.many in
    let size = c.as_mut_slice.ensures.len in
    let written : (with_items v ns).items ≡ ns = with_items_is v ns (omega (arith, many, size, length-map ns kept.Code)) in
    let count = size ∙ c.in_ok-resize.ensures.len ∙ c.len.ensures in
    let values : values_of tables r ≡ c.column-column.result.now.values =
    values-here tables (Some r) r c.index-tables-column.result c.column-column.result.now refl (table-here tables r.table c.index-tables-column.result c.requires.column.table c.index-tables-column.is) c.column-column.ensures.column in
    ap kept_codes written
    ∙ cells-of-block tables r block c.rows-rows.result.now (kept_codes ns) c.rows-rows.ensures
    (subst (λ vs. AreCellsOf vs c.rows-rows.result.now (length block) (kept_codes ns)) (sym values) (subst (λ n. AreCellsOf c.column-column.result.now.values c.rows-rows.result.now n (kept_codes ns)) count are))
