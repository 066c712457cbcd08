use Rattle.std.proofs.Common.{◌∙◌, ap, subst, sym}
use Rattle.std.specs.List.{All, filter, list_all}
use Rattle.ssb_plan.specs.Filters.{SaysSame}
use Rattle.ssb_conditions.specs.Rows.{tables_at}
use Rattle.ssb_plan.proofs.TableRows.{both-pass, columns-same, meets-column}
use Rattle.ssb_plan.proofs.table_filter.TableFilter.keep.Goals as goal

pub returns : goal.returns
returns c = λ cs is.
    let tables = tables_at c.args.local.tables.now c.args.local.from.now in
    let said = meets-column tables c.args.local.table.now c.args.local.place cs in
    let read = c.deref.ensures.value in
    let rows = c.args.rows.now.items in
    let same = columns-same tables c.args.local.table.now c.args.local.place c.requires.few c.requires.table cs c.args.self.now is in
    c.keep_others.ensures ∙ both-pass tables c.args.local.table.now c.args.local.place c.requires.few c.requires.table cs c.args.self.now is rows _
    (c.keep_all.ensures said (subst (All (SaysSame c.args.local.table.now said)) (sym read) same) ∙ ap (λ fs. filter (λ r. list_all (λ g. said g r) fs) rows) read)
