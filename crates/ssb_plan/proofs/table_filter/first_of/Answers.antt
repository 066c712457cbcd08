use Rattle.std.proofs.Common.{◌≡◌, ◌∙◌, ◌-◌, ◌<◌, ap, arith, drop, filter, length, refl, subst, sym, take}
use Rattle.std.specs.List.{All, list_all, range_with_len}
use Rattle.std.proofs.lemmas.List.{length-drop, take_all}
use Rattle.std.proofs.lemmas.List.Elements.{All-drop, All-filter, All-take}
use Rattle.ssb_cells.specs.Tables.{rows_in}
use Rattle.ssb_plan.specs.Filters.{IsThere, SaysSame, passes_column}
use Rattle.ssb_plan.proofs.MarkedRows.{tested-all}
use Rattle.ssb_plan.proofs.TableRows.{range-below}
use Rattle.ssb_plan.proofs.table_filter.first_of.Goals as goal

pub keep_all-requires-clause-there : goal.keep_all-requires-clause-there
keep_all-requires-clause-there c = All-take (IsThere c.args.table.now) _ _ (All-drop (IsThere c.args.table.now) c.in_ok-marked.marked c.args.columns.now c.requires.there)

pub keep_all-requires-clause-rows : goal.keep_all-requires-clause-rows
keep_all-requires-clause-rows c =
    let order = c.requires.order in
    let rows = c.requires.rows in
    subst (All (λ r. r < rows_in c.args.table.now)) (sym (c.in_ok-marked.ensures.rows (passes_column c.args.table.now) (λ k d lt r stands. refl)))
    (All-filter _ (λ r. r < rows_in c.args.table.now) (range_with_len c.args.from (c.args.end - c.args.from))
    (range-below c.args.from (c.args.end - c.args.from) (rows_in c.args.table.now) (omega (arith, order, rows))))

pub returns : goal.returns
returns c = λ p same.
    let m = c.in_ok-marked.marked in
    let columns = c.args.columns.now in
    let rest = take (length columns - m) (drop m columns) in
    let whole : rest ≡ drop m columns = take_all (length columns - m) (drop m columns) (let long = length-drop m columns in omega (arith, long)) in
    c.keep_all.ensures p (All-take (SaysSame c.args.table.now p) (length columns - m) (drop m columns) (All-drop (SaysSame c.args.table.now p) m columns same))
    ∙ ap (filter (λ r. list_all (λ f. p f r) rest)) (c.in_ok-marked.ensures.rows p same)
    ∙ tested-all p columns rest m (range_with_len c.args.from (c.args.end - c.args.from)) whole
