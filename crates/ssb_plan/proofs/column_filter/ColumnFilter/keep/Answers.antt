use Rattle.std.proofs.Common.{◌∙◌, ◌<◌, ap, not, subst, sym}
use Rattle.std.specs.List.{All, filter}
use Rattle.ssb_packed.specs.Lent.{flag_at}
use Rattle.ssb_plan.proofs.ColumnRows.{apart-list, stand-list, together-list}
use Rattle.ssb_plan.proofs.column_filter.ColumnFilter.keep.Goals as goal

pub returns-then-takes_nulls-clause-rows : goal.returns-then-takes_nulls-clause-rows
returns-then-takes_nulls-clause-rows c =
    let long = c.column-column.ensures.long in
    c.keep_with_nulls.ensures.rows ∙ together-list c.args.table.now c.args.self.now c.column-column.result.now _ c.null_words-nulls.result.now c.column-column.ensures.column c.values_of-values.ensures.values c.null_words-nulls.ensures (λ n least greatest. c.requires.there.2 n least greatest) c.args.rows.now.items (subst (λ n. All (λ r. r < n) c.args.rows.now.items) (sym long) c.requires.rows) c.keep_with_nulls.ensures.within (c.takes_nulls.ensures.yes c.if-takes_nulls.true)

pub returns-then-takes_nulls-clause-stand : goal.returns-then-takes_nulls-clause-stand
returns-then-takes_nulls-clause-stand c =
    let long = c.column-column.ensures.long in
    stand-list c.args.table.now c.args.self.now c.column-column.result.now _ c.null_words-nulls.result.now c.column-column.ensures.column c.values_of-values.ensures.values c.null_words-nulls.ensures (λ n least greatest. c.requires.there.2 n least greatest) c.args.rows.now.items (subst (λ n. All (λ r. r < n) c.args.rows.now.items) (sym long) c.requires.rows) c.keep_with_nulls.ensures.within

pub returns-else-takes_nulls-clause-rows : goal.returns-else-takes_nulls-clause-rows
returns-else-takes_nulls-clause-rows c =
    let long = c.column-column.ensures.long in
    c.keep_values.ensures ∙ ap (filter (λ r. not (flag_at c.null_words-nulls.result.now r))) c.keep.ensures.rows ∙ apart-list c.args.table.now c.args.self.now c.column-column.result.now _ c.null_words-nulls.result.now c.column-column.ensures.column c.values_of-values.ensures.values c.null_words-nulls.ensures (λ n least greatest. c.requires.there.2 n least greatest) c.args.rows.now.items (subst (λ n. All (λ r. r < n) c.args.rows.now.items) (sym long) c.requires.rows) (λ k d lt. c.values_of-values.ensures.within _ (c.keep.ensures.within k d lt)) (c.takes_nulls.ensures.no c.if-takes_nulls.false)

pub returns-else-takes_nulls-clause-stand : goal.returns-else-takes_nulls-clause-stand
returns-else-takes_nulls-clause-stand c =
    let long = c.column-column.ensures.long in
    stand-list c.args.table.now c.args.self.now c.column-column.result.now _ c.null_words-nulls.result.now c.column-column.ensures.column c.values_of-values.ensures.values c.null_words-nulls.ensures (λ n least greatest. c.requires.there.2 n least greatest) c.args.rows.now.items (subst (λ n. All (λ r. r < n) c.args.rows.now.items) (sym long) c.requires.rows) (λ k d lt. c.values_of-values.ensures.within _ (c.keep.ensures.within k d lt))
