use Rattle.std.proofs.Common.{◌∙◌, get_or, map, ap, subst, sym}
use Rattle.ssb_groups.specs.Refs.{HasRow, cell_in}
use Rattle.ssb_groups.specs.Tallies.{kept_codes}
use Rattle.ssb_groups.proofs.ColumnFacts.{if-ok, place-row}
use Rattle.ssb_groups.proofs.NumberFacts.{codes-alone}
use Rattle.ssb_groups.proofs.PlainFacts.{values-plain}
use Rattle.ssb_groups.proofs.gather.gather_value_codes.Goals as goal

pub list_codes-requires-clause-rows : goal.list_codes-requires-clause-rows
list_codes-requires-clause-rows c = λ k d lt.
    let j = c.args.job.now in
    let tables = c.deref-2.ensures.value ∙ ap (λ v. v.items) c.deref.ensures ∙ c.tables.ensures in
    subst (λ ts. HasRow ts (get_or c.args.block.now k d) c.args.column) (sym tables) (place-row j c.args.column c.requires.there (get_or c.args.block.now k d) (c.requires.rows k d lt))

pub returns : goal.returns
returns c =
    let j = c.args.job.now in
    let block = c.args.block.now in
    let cs = c.list_codes.new.codes.items in
    let tables = c.deref-2.ensures.value ∙ ap (λ v. v.items) c.deref.ensures ∙ c.tables.ensures in
    if-ok c.list_codes.result _ _ _ (λ plain cells same. λ f e yes itself is.
    values-plain j f e c.args.column block (kept_codes cs) (kept_codes cs) c.requires.there c.requires.rows (cells yes ∙ ap (λ ts. map (λ rows. cell_in ts rows c.args.column) block) tables) (codes-alone f cs itself) is) c.list_codes.ensures c.list_codes.ensures
