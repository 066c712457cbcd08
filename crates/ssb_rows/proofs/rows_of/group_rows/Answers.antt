use Rattle.std.proofs.Common.{◌<◌, length}
use Rattle.ssb_rows.proofs.EntryFacts.{stops, goes}
use Rattle.ssb_rows.proofs.rows_of.group_rows.Goals as goal

pub returns-in-Err-clause-err : goal.returns-in-Err-clause-err
returns-in-Err-clause-err c =
    let below : c.loop-at.at < length c.args.groups.now.entries = rw (← c.group_count-at-end.ensures) c.loop-at-test.true in
    stops c.args.groups.now.entries c.loop-at.at c.in-Err.fault below c.loop-at.invariant.1 c.in-Err.ensures.err

pub loop-at-preserved : goal.loop-at-preserved
loop-at-preserved c =
    let below : c.loop-at.at < length c.args.groups.now.entries = rw (← c.group_count-at-end.ensures) c.loop-at-test.true in
    let r = goes c.args.parts.now c.args.groups.now.entries c.loop-at.at _ _ below (c.loop-at.invariant.1, c.loop-at.invariant.2) c.in-Ok.ensures.ok in
    (c.in-Ok.ensures.within, r.0, r.1)
