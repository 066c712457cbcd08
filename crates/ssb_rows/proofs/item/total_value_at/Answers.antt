use Rattle.std.proofs.Common.{◌∙◌, map, sym, ap}
use Rattle.ssb_groups.specs.Totals.{total_cell}
use Rattle.ssb_rows.specs.Result.{is_beyond}
use Rattle.ssb_rows.proofs.EntryFacts.{not_beyond_at, total-here, total-past}
use Rattle.ssb_rows.proofs.item.total_value_at.Goals as goal

pub total_value-requires : goal.total_value-requires
total_value-requires c =
    ap is_beyond (sym (total-here c.args.totals.now c.args.at c.in-Some.total.now c.in-Some.ensures.lookup.0 c.in-Some.ensures.lookup.1)) ∙ not_beyond_at (map total_cell c.args.totals.now) c.args.at c.requires

pub returns-in-Some : goal.returns-in-Some
returns-in-Some c =
    c.total_value.ensures ∙ sym (total-here c.args.totals.now c.args.at c.in-Some.total.now c.in-Some.ensures.lookup.0 c.in-Some.ensures.lookup.1)

pub returns-in-None : goal.returns-in-None
returns-in-None c = total-past c.args.totals.now c.args.at c.in-None.ensures.lookup.0
