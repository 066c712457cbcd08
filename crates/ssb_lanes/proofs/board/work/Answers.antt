use Rattle.std.proofs.Common.{arith, subst, sym}
use Rattle.std.specs.List.{All}
use Rattle.ssb_load.specs.Subject.{table}
use Rattle.ssb_lanes.specs.Berth.{Knows}
use Rattle.ssb_lanes.proofs.BoardFacts.{knows-at, pass-at, pass-set, passes-long, view-same}
use Rattle.ssb_lanes.proofs.board.work.Goals as goal

pub read_one-requires-clause-queue : goal.read_one-requires-clause-queue
read_one-requires-clause-queue g c = let lt = c.loop-at-test.true in pass-at c.args.berths.now c.loop-at.hand.items c.loop-at.at _ _ c.loop-at.invariant.each (omega (arith, lt, c.requires.within)) c.index-berths-at.is c.index_mut.ensures.value

pub read_one-requires-clause-knows : goal.read_one-requires-clause-knows
read_one-requires-clause-knows g c =
    let inv = c.loop-at.invariant in
    let long = passes-long _ _ inv.each in
    let lt = c.loop-at-test.true in
    knows-at (Knows (table c.args.context.now.rules.now c.args.context.now.max_rows)) c.loop-at.hand.items _ _ inv.knows (omega (arith, long, lt, c.requires.within)) c.index_mut.ensures.value

pub loop-at-preserved : goal.loop-at-preserved
loop-at-preserved g c =
    let inv = c.loop-at.invariant in
    let is = c.index_mut.ensures.value in
    let lt = c.loop-at-test.true in
    record {
      each = pass-set c.args.berths.now c.loop-at.hand.items c.loop-at.at _ _ inv.each (omega (arith, lt, c.requires.within)) is c.read_one.ensures.queue;
      knows = subst (All (Knows (table c.args.context.now.rules.now c.args.context.now.max_rows))) (sym (view-same c.loop-at.hand.items _ _ _ is c.read_one.ensures.view)) inv.knows;
    }
