use Rattle.std.proofs.Common.{◌∙◌, arith, map, subst, sym}
use Rattle.std.specs.List.{All}
use Rattle.std.proofs.lemmas.List.{length-map, take_all}
use Rattle.crossbeam_queue.specs.Passes.{view}
use Rattle.ssb_load.specs.TableIntake.{subject_of}
use Rattle.ssb_lanes.specs.Berth.{Knows}
use Rattle.ssb_lanes.proofs.BoardFacts.{handed-all, handed-more, knows-at, pass-at, pass-set, passes-long, view-at, view-same}
use Rattle.ssb_lanes.proofs.board.hand_of.Goals as goal

pub another-requires-clause-queue : goal.another-requires-clause-queue
another-requires-clause-queue g c = let lt = c.loop-at-test.true in pass-at c.args.berths.now c.loop-at.passes.items c.loop-at.at _ _ c.loop-at.invariant.each (omega (arith, lt)) c.index-berths-at.is c.index_mut.ensures.value

pub another-requires-clause-laid : goal.another-requires-clause-laid
another-requires-clause-laid g c =
    let inv = c.loop-at.invariant in
    let long = passes-long _ _ inv.each in
    let lt = c.loop-at-test.true in
    let Ready = Knows (subject_of c.args.rows.now) in
    let k = knows-at Ready c.loop-at.passes.items _ _ (subst (All Ready) (sym inv.same) c.requires.laid) (omega (arith, long, lt)) c.index_mut.ensures.value in
    (k.0, k.1)

pub loop-at-preserved : goal.loop-at-preserved
loop-at-preserved g c =
    let inv = c.loop-at.invariant in
    let is = c.index_mut.ensures.value in
    let long = passes-long _ _ inv.each in
    let lt = c.loop-at-test.true in
    let made = c.another.ensures in
    let before = c.args.passes.now.items in
    let m = length-map before view in
    let o = passes-long _ _ c.requires.each in
    rw c.in_ok-push.ensures.items (record {
      each = pass-set c.args.berths.now c.loop-at.passes.items c.loop-at.at _ _ inv.each (omega (arith, lt)) is made.queue.0;
      same = view-same c.loop-at.passes.items _ _ _ is made.same.0 ∙ inv.same;
      handed = handed-more _ (map view before) c.loop-at.at c.loop-at.hand.items _ _ inv.handed (omega (arith, lt)) (omega (arith, m, o)) c.index-berths-at.is made.queue.1
          (made.same.1 ∙ sym (view-at c.loop-at.passes.items before c.loop-at.at _ _ inv.same (omega (arith, long, lt)) is));
    })

pub returns-clause-hand : goal.returns-clause-hand
returns-clause-hand g c =
    let inv = c.loop-at.invariant in
    let over = c.loop-at-test.false in
    let before = c.args.passes.now.items in
    let m = length-map before view in
    let o = passes-long _ _ c.requires.each in
    record {
      each = handed-all _ _ c.loop-at.at _ inv.handed (omega (arith, over));
      knows = subst (All (Knows (subject_of c.args.rows.now))) (sym (inv.handed.known ∙ take_all c.loop-at.at (map view before) (omega (arith, m, o, over)))) c.requires.laid;
    }

pub returns-in_err-push-clause-each : goal.returns-in_err-push-clause-each
returns-in_err-push-clause-each g c = let lt = c.loop-at-test.true in pass-set c.args.berths.now c.loop-at.passes.items c.loop-at.at _ _ c.loop-at.invariant.each (omega (arith, lt)) c.index_mut.ensures.value c.another.ensures.queue.0

pub returns-in_err-push-clause-same : goal.returns-in_err-push-clause-same
returns-in_err-push-clause-same g c = view-same c.loop-at.passes.items _ _ _ c.index_mut.ensures.value c.another.ensures.same.0 ∙ c.loop-at.invariant.same
