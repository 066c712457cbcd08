-- The source at the place was read on: it met its end, or a read of it failed.
use Rattle.std.proofs.Common.{◌∙◌, ap, arith, get_or, rules}
use Rattle.ssb_lanes.proofs.JoinedFacts.{IsRead, whole-after}
use Rattle.ssb_lanes.proofs.SkippingFacts.{met-still, skip-next, skipped-grows}
use Rattle.ssb_lanes.proofs.lanes.skip_rest.Goals as goal

pub loop-at-preserved : goal.loop-at-preserved
loop-at-preserved g c =
    let lane = get_or c.loop-at.lanes c.loop-at.at c.index-lanes-at.result in
    let is : IsRead c.loop-at.lanes c.loop-at.at lane c.skip.new.source = record { inside = search (rules); here = ap (get_or c.loop-at.lanes c.loop-at.at) c.index-lanes-at.is } in
    let more = c.skip.ensures.met c.if-not-skip.false in
    skip-next g.S.Source c.args.lanes.now c.args.from c.loop-at.lanes c.loop-at.at lane c.skip.new.source _ c.loop-at.invariant is c.skip.ensures.grows c.skip.ensures.whole c.skip.ensures.forth (omega (arith, more))

pub returns-then-not-skip-clause-whole : goal.returns-then-not-skip-clause-whole
returns-then-not-skip-clause-whole g c =
    let lane = get_or c.loop-at.lanes c.loop-at.at c.index-lanes-at.result in
    let is : IsRead c.loop-at.lanes c.loop-at.at lane c.skip.new.source = record { inside = search (rules); here = ap (get_or c.loop-at.lanes c.loop-at.at) c.index-lanes-at.is } in
    whole-after g.S.Source.whole c.loop-at.lanes c.loop-at.at lane c.skip.new.source is c.skip.ensures.whole ∙ c.loop-at.invariant.whole

pub returns-then-not-skip-clause-grows : goal.returns-then-not-skip-clause-grows
returns-then-not-skip-clause-grows g c =
    let lane = get_or c.loop-at.lanes c.loop-at.at c.index-lanes-at.result in
    let is : IsRead c.loop-at.lanes c.loop-at.at lane c.skip.new.source = record { inside = search (rules); here = ap (get_or c.loop-at.lanes c.loop-at.at) c.index-lanes-at.is } in
    skipped-grows g.S.Source c.args.lanes.now c.args.from c.loop-at.lanes c.loop-at.at lane c.skip.new.source _ c.loop-at.invariant is c.skip.ensures.grows

pub returns-then-not-skip-clause-met : goal.returns-then-not-skip-clause-met
returns-then-not-skip-clause-met g c =
    let lane = get_or c.loop-at.lanes c.loop-at.at c.index-lanes-at.result in
    let is : IsRead c.loop-at.lanes c.loop-at.at lane c.skip.new.source = record { inside = search (rules); here = ap (get_or c.loop-at.lanes c.loop-at.at) c.index-lanes-at.is } in
    met-still g.S.Source c.args.lanes.now c.args.from c.loop-at.lanes c.loop-at.at lane c.skip.new.source c.loop-at.invariant is
