use Rattle.std.proofs.Common.{◌∙◌, ◌||◌, ◌+◌, List, drop, map, sym, ap}
use Rattle.ssb_groups.specs.declared.totals.Total.{Total}
use Rattle.ssb_groups.specs.declared.totals.Total.TheVariants as total
use Rattle.std.specs.List.{list_any}
use Rattle.ssb_groups.specs.Totals.{total_cell}
use Rattle.ssb_rows.specs.Result.{is_beyond}
use Rattle.ssb_rows.proofs.EntryFacts.{beyond-here}
use Rattle.ssb_rows.proofs.rows_of.has_beyond.Goals as goal

pub returns-then-is_beyond : goal.returns-then-is_beyond
returns-then-is_beyond c =
    let ts : List Total = c.args.totals.now in
    let i = c.loop-total.total-index in
    sym (sym c.loop-total.invariant ∙ beyond-here ts i total.Null c.loop-total-test.true ∙ ap (λ b. b || list_any is_beyond (map total_cell (drop (i + 1) ts))) (sym c.is_beyond.ensures ∙ c.if-is_beyond.true))

pub loop-total-preserved : goal.loop-total-preserved
loop-total-preserved c =
    let ts : List Total = c.args.totals.now in
    let i = c.loop-total.total-index in
    sym (beyond-here ts i total.Null c.loop-total-test.true ∙ ap (λ b. b || list_any is_beyond (map total_cell (drop (i + 1) ts))) (sym c.is_beyond.ensures ∙ c.if-is_beyond.false)) ∙ c.loop-total.invariant
