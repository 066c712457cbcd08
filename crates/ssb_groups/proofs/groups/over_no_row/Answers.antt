use Rattle.std.proofs.Common.{[], ◌∷◌, sym, map, ◌∙◌}
use Rattle.std.proofs.lemmas.List.{map-append}
use Rattle.ssb_groups.specs.Aggregates.{agg}
use Rattle.ssb_groups.specs.Totals.{total_cell}
use Rattle.ssb_groups.proofs.AddFacts.{totals-nothing}
use Rattle.ssb_groups.proofs.ColumnFacts.{mapped, mapped-more}
use Rattle.ssb_groups.proofs.groups.over_no_row.Goals as goal

pub returns : goal.returns
returns c =
    mapped (λ a. agg a []) (map total_cell c.loop-aggregate.values.items) c.args.aggregates.now c.loop-aggregate.aggregate-index c.loop-aggregate-test.false c.loop-aggregate.invariant ∙ sym (totals-nothing c.args.aggregates.now)

pub loop-aggregate-preserved : goal.loop-aggregate-preserved
loop-aggregate-preserved c =
    let l = c.loop-aggregate in
    let value = c.over_no_row.result in
    rw (c.in_ok-push.ensures.items, map-append total_cell l.values.items (value ∷ []))
    (mapped-more (λ a. agg a []) (map total_cell l.values.items) c.args.aggregates.now l.aggregate-index c.aggregate-item.result (total_cell value) c.loop-aggregate-test.true c.aggregate-item.is c.over_no_row.ensures l.invariant)
