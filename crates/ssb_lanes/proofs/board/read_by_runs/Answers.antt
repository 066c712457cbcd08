use Rattle.std.proofs.Common.{◌∙◌, sym, ap, arith, rules, subst}
use Rattle.ssb_lanes.specs.Lane.{IsLaneRead}
use Rattle.ssb_load.specs.Subject.{table}
use Rattle.ssb_lanes.proofs.LaneFacts.{same-each}
use denote.Param.Send.{sendable}
use Rattle.std.proofs.lemmas.Grind.{common_steps}
use Rattle.ssb_lanes.proofs.Crossing.{lane_send}
use Rattle.ssb_lanes.proofs.board.read_by_runs.Goals as goal

pub returns-clause-whole : goal.returns-clause-whole
returns-clause-whole g c =
    same-each g.S.Source.whole c.args.lanes.now _ (search rules) (λ i d lt.
    let k = (c.for_each_mut.ensures i d lt).1 in
    sym (ap (λ l. g.S.Source.whole l.source) k.left) ∙ k.call.0 ∙ ap (λ l. g.S.Source.whole l.source) k.argument_is)

pub returns-clause-read : goal.returns-clause-read
returns-clause-read g c =
    λ i d lt.
    let n = c.for_each_mut.auto.s in
    let k = (c.for_each_mut.ensures i d (omega (arith, n, lt))).1 in
    subst (IsLaneRead g.S.Source (table c.args.context.now.rules.now c.args.context.now.max_rows)) k.left k.call.1

pub for_each_mut-requires-clause-accepts : goal.for_each_mut-requires-clause-accepts
for_each_mut-requires-clause-accepts g c = grind (arith, common_steps)

pub for_each_mut-requires-send-T : goal.for_each_mut-requires-send-T
for_each_mut-requires-send-T g c κs within = search (lane_send, sendable) depth 20
