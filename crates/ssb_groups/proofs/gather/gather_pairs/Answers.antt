use Rattle.std.proofs.Common.{◌≡◌, ◌∙◌, get_or, map, ap, subst, sym, arith}
use Rattle.std.specs.Vec.{with_items}
use Rattle.std.proofs.lemmas.List.{with_items_is}
use Rattle.ssb_trees.specs.declared.aggregate.Aggregate.TheVariants as aggregate
use Rattle.ssb_groups.specs.Gathering.{AreTakenPlain}
use Rattle.ssb_groups.specs.Refs.{HasRow, IsColumn, cell_in}
use Rattle.ssb_groups.proofs.ColumnFacts.{place-row, place-there}
use Rattle.ssb_groups.proofs.PlainFacts.{pairs-plain}
use Rattle.ssb_groups.proofs.gather.gather_pairs.Goals as goal

pub fill_cells-requires-clause-rows : goal.fill_cells-requires-clause-rows
fill_cells-requires-clause-rows c = λ k d lt.
    let j = c.args.job.now in
    let tables = c.deref-2.ensures.value ∙ ap (λ v. v.items) c.deref.ensures ∙ c.tables.ensures in
    subst (λ ts. HasRow ts (get_or c.args.block.now k d) c.args.pair.left) (sym tables) (place-row j c.args.pair.left c.requires.left (get_or c.args.block.now k d) (c.requires.rows k d lt))

pub fill_cells-requires-2-clause-column : goal.fill_cells-requires-2-clause-column
fill_cells-requires-2-clause-column c =
    let tables = c.deref-4.ensures.value ∙ ap (λ v. v.items) c.deref-3.ensures ∙ c.tables-2.ensures in
    subst (λ ts. IsColumn ts c.args.pair.right) (sym tables) (place-there c.args.job.now c.args.pair.right c.requires.right)

pub fill_cells-requires-2-clause-rows : goal.fill_cells-requires-2-clause-rows
fill_cells-requires-2-clause-rows c = λ k d lt.
    let j = c.args.job.now in
    let tables = c.deref-4.ensures.value ∙ ap (λ v. v.items) c.deref-3.ensures ∙ c.tables-2.ensures in
    subst (λ ts. HasRow ts (get_or c.args.block.now k d) c.args.pair.right) (sym tables) (place-row j c.args.pair.right c.requires.right (get_or c.args.block.now k d) (c.requires.rows k d lt))

pub returns : goal.returns
returns c = λ e x yes is pair.
    let j = c.args.job.now in
    let block = c.args.block.now in
    let v = c.resize.new.self in
    let ts = c.apply_all.new.totals in
    let applied = c.apply_all.ensures yes in
    let many = applied.many in
    let cells = c.as_slice.ensures.len in
    let size = c.len.ensures in
    let resized = c.in_ok-resize.ensures.len in
    let written : (with_items v ts).items ≡ ts = with_items_is v ts (omega (arith, many, cells, size, resized)) in
    let left-tables = c.deref-2.ensures.value ∙ ap (λ v. v.items) c.deref.ensures ∙ c.tables.ensures in
    let right-tables = c.deref-4.ensures.value ∙ ap (λ v. v.items) c.deref-3.ensures ∙ c.tables-2.ensures in
    subst (AreTakenPlain j (aggregate.Of c.args.function e) block) (sym written)
    (pairs-plain j c.args.function e x c.args.pair block c.as_slice.result.now c.as_slice-2.result.now ts c.requires.left c.requires.right c.requires.rows
    (c.as_slice.ensures.value ∙ c.in_ok-fill_cells.ensures.cells ∙ ap (λ ts. map (λ rows. cell_in ts rows c.args.pair.left) block) left-tables)
    (c.as_slice-2.ensures.value ∙ c.in_ok-fill_cells-2.ensures.cells ∙ ap (λ ts. map (λ rows. cell_in ts rows c.args.pair.right) block) right-tables) applied is pair)
