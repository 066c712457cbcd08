use Rattle.std.proofs.Common.{◌∙◌, ◌∷◌, [], ap, arith, length-append, map, subst, sym}
use Rattle.std.specs.List.{All}
use Rattle.std.proofs.lemmas.List.{length-map, take_all}
use Rattle.std.proofs.lemmas.List.Elements.{All-push}
use Rattle.crossbeam_queue.specs.Passes.{view}
use Rattle.ssb_load.specs.Subject.{table}
use Rattle.ssb_lanes.specs.Berth.{Knows, told_of}
use Rattle.ssb_lanes.specs.Lane.{IsLaneRead}
use Rattle.ssb_lanes.proofs.BoardFacts.{image-more, knows-at, pass-at, pass-set, passes-long, told-at, view-same}
use Rattle.ssb_lanes.proofs.board.collect.Goals as goal

pub take_read-lane-requires-clause-queue : goal.take_read-lane-requires-clause-queue
take_read-lane-requires-clause-queue g c = let lt = c.loop-at-test.true in pass-at c.args.berths.now c.loop-at.passes.items c.loop-at.at _ _ c.loop-at.invariant.each (omega (arith, lt)) c.index-berths-at.is c.index_mut.ensures.value

pub take_read-lane-requires-clause-knows : goal.take_read-lane-requires-clause-knows
take_read-lane-requires-clause-knows g c =
    let inv = c.loop-at.invariant in
    let long = passes-long _ _ inv.each in
    let lt = c.loop-at-test.true in
    let Ready = Knows (table c.args.context.now.rules.now c.args.context.now.max_rows) in
    knows-at Ready c.loop-at.passes.items _ _ (subst (All Ready) (sym inv.same) c.requires.hand.knows) (omega (arith, long, lt)) c.index_mut.ensures.value

pub loop-at-preserved : goal.loop-at-preserved
loop-at-preserved g c =
    let inv = c.loop-at.invariant in
    let is = c.index_mut.ensures.value in
    let long = passes-long _ _ inv.each in
    let lt = c.loop-at-test.true in
    let taken = c.take_read-lane.ensures in
    let told = told_of g.S.Source.whole in
    let before = c.args.passes.now.items in
    let n = length-map (map view before) told in
    let m = length-map before view in
    let o = passes-long _ _ c.requires.hand.each in
    let count = inv.count in
    let more = length-append c.loop-at.lanes.items (c.take_read-lane.result.lane ∷ []) in
    rw c.push_reserved.ensures.items (record {
      each = pass-set c.args.berths.now c.loop-at.passes.items c.loop-at.at _ _ inv.each (omega (arith, lt)) is taken.queue;
      same = view-same c.loop-at.passes.items _ _ _ is taken.view ∙ inv.same;
      whole = image-more (λ lane. g.S.Source.whole lane.source) c.loop-at.lanes.items (map told (map view before)) c.loop-at.at c.take_read-lane.result.lane inv.whole (omega (arith, n, m, o, lt))
          (taken.told ∙ sym (told-at told c.loop-at.passes.items before c.loop-at.at _ _ inv.same (omega (arith, long, lt)) is ∙ ap told taken.known));
      read = All-push (IsLaneRead g.S.Source (table c.args.context.now.rules.now c.args.context.now.max_rows)) c.loop-at.lanes.items _ inv.read taken.read;
      count = omega (arith, more, count);
      room = c.push_reserved.ensures.capacity ∙ inv.room;
    })

pub returns-clause-whole : goal.returns-clause-whole
returns-clause-whole g c =
    let told = told_of g.S.Source.whole in
    let before = c.args.passes.now.items in
    let n = length-map (map view before) told in
    let m = length-map before view in
    let o = passes-long _ _ c.requires.hand.each in
    let over = c.loop-at-test.false in
    c.loop-at.invariant.whole ∙ take_all c.loop-at.at (map told (map view before)) (omega (arith, n, m, o, over))
