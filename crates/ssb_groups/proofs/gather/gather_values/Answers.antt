use Rattle.std.proofs.Common.{◌≡◌, ◌∙◌, get_or, map, ap, subst, sym, arith}
use Rattle.std.specs.Vec.{with_items}
use Rattle.std.proofs.lemmas.List.{with_items_is}
use Rattle.ssb_trees.specs.declared.aggregate.Aggregate.TheVariants as aggregate
use Rattle.ssb_groups.specs.Gathering.{AreTakenPlain}
use Rattle.ssb_groups.specs.Refs.{HasRow, IsColumn, cell_in}
use Rattle.ssb_groups.proofs.ColumnFacts.{place-row, place-there}
use Rattle.ssb_groups.proofs.PlainFacts.{values-plain}
use Rattle.ssb_groups.proofs.gather.gather_values.Goals as goal

pub fill_cells-requires-clause-rows : goal.fill_cells-requires-clause-rows
fill_cells-requires-clause-rows c = λ k d lt.
    let j = c.args.job.now in
    let tables = c.deref-2.ensures.value ∙ ap (λ v. v.items) c.deref.ensures ∙ c.tables-tables.ensures in
    subst (λ ts. HasRow ts (get_or c.args.block.now k d) c.args.column) (sym tables) (place-row j c.args.column c.requires.there (get_or c.args.block.now k d) (c.requires.rows k d lt))

pub kind_at-requires : goal.kind_at-requires
kind_at-requires c =
    let tables = c.deref-4.ensures.value ∙ ap (λ v. v.items) c.deref-3.ensures ∙ c.tables-tables.ensures in
    subst (λ ts. IsColumn ts c.args.column) (sym tables) (place-there c.args.job.now c.args.column c.requires.there)

pub returns : goal.returns
returns c = λ e is.
    let j = c.args.job.now in
    let block = c.args.block.now in
    let v = c.fill_cells.new.cells in
    let x = c.alone_all.new.cells in
    let many = c.alone_all.ensures.many in
    let size = c.as_mut_slice.ensures.len in
    let written : (with_items v x).items ≡ x = with_items_is v x (omega (arith, many, size)) in
    let tables = c.deref-2.ensures.value ∙ ap (λ v. v.items) c.deref.ensures ∙ c.tables-tables.ensures in
    subst (AreTakenPlain j (aggregate.Of c.args.function e) block) (sym written)
    (values-plain j c.args.function e c.args.column block c.as_mut_slice.result.now x c.requires.there c.requires.rows (c.as_mut_slice.ensures.value ∙ c.in_ok-fill_cells.ensures.cells ∙ ap (λ ts. map (λ rows. cell_in ts rows c.args.column) block) tables) c.alone_all.ensures is)
