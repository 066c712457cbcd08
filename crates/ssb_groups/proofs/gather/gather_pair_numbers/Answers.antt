use Rattle.std.proofs.Common.{◌≡◌, ◌∙◌, get_or, map, ap, subst, sym, arith}
use Rattle.std.specs.Vec.{with_items}
use Rattle.std.proofs.lemmas.List.{length-map, with_items_is}
use Rattle.ssb_trees.specs.declared.aggregate.Aggregate.TheVariants as aggregate
use Rattle.ssb_groups.specs.Gathering.{AreTakenPlain}
use Rattle.ssb_groups.specs.Refs.{HasRow, IsColumn, cell_in}
use Rattle.ssb_groups.specs.Tallies.{kept_numbers}
use Rattle.ssb_keys.specs.declared.kept.Kept.TheVariants as kept
use Rattle.ssb_groups.proofs.ColumnFacts.{place-row, place-there}
use Rattle.ssb_groups.proofs.PlainFacts.{pairs-plain}
use Rattle.ssb_groups.proofs.gather.gather_pair_numbers.Goals as goal

pub list_numbers-requires-clause-rows : goal.list_numbers-requires-clause-rows
list_numbers-requires-clause-rows c = λ k d lt.
    let j = c.args.job.now in
    let tables = c.deref-2.ensures.value ∙ ap (λ v. v.items) c.deref.ensures ∙ c.tables.ensures in
    subst (λ ts. HasRow ts (get_or c.args.block.now k d) c.args.pair.left) (sym tables) (place-row j c.args.pair.left c.requires.left (get_or c.args.block.now k d) (c.requires.rows k d lt))

pub list_numbers-requires-2-clause-column : goal.list_numbers-requires-2-clause-column
list_numbers-requires-2-clause-column c =
    let tables = c.deref-4.ensures.value ∙ ap (λ v. v.items) c.deref-3.ensures ∙ c.tables-2.ensures in
    subst (λ ts. IsColumn ts c.args.pair.right) (sym tables) (place-there c.args.job.now c.args.pair.right c.requires.right)

pub list_numbers-requires-2-clause-rows : goal.list_numbers-requires-2-clause-rows
list_numbers-requires-2-clause-rows c = λ k d lt.
    let j = c.args.job.now in
    let tables = c.deref-4.ensures.value ∙ ap (λ v. v.items) c.deref-3.ensures ∙ c.tables-2.ensures in
    subst (λ ts. HasRow ts (get_or c.args.block.now k d) c.args.pair.right) (sym tables) (place-row j c.args.pair.right c.requires.right (get_or c.args.block.now k d) (c.requires.rows k d lt))

pub returns : goal.returns
returns c = λ f e x yes itself is pair.
    let j = c.args.job.now in
    let block = c.args.block.now in
    let v = c.list_numbers.new.numbers in
    let ns = c.apply_numbers.new.left in
    let left = c.as_mut_slice.result.now in
    let right = c.as_slice.result.now in
    let applied = c.apply_numbers.ensures f yes itself in
    let many = applied.many in
    let size = c.as_mut_slice.ensures.len in
    let written : (with_items v ns).items ≡ ns = with_items_is v ns (omega (arith, many, size, length-map ns kept.Number, length-map left kept.Number)) in
    let left-tables = c.deref-2.ensures.value ∙ ap (λ v. v.items) c.deref.ensures ∙ c.tables.ensures in
    let right-tables = c.deref-4.ensures.value ∙ ap (λ v. v.items) c.deref-3.ensures ∙ c.tables-2.ensures in
    subst (λ xs. AreTakenPlain j (aggregate.Of f e) block (kept_numbers xs)) (sym written)
    (pairs-plain j f e x c.args.pair block (kept_numbers left) (kept_numbers right) (kept_numbers ns) c.requires.left c.requires.right c.requires.rows
    (ap kept_numbers c.as_mut_slice.ensures.value ∙ c.in_ok-list_numbers.ensures.cells c.if-not-branch.false ∙ ap (λ ts. map (λ rows. cell_in ts rows c.args.pair.left) block) left-tables)
    (ap kept_numbers c.as_slice.ensures.value ∙ c.in_ok-list_numbers-2.ensures.cells c.if-not-branch-2.false ∙ ap (λ ts. map (λ rows. cell_in ts rows c.args.pair.right) block) right-tables) applied is pair)
