use Rattle.std.proofs.Common.{◌≡◌, ◌∷◌, [], None, arith, length-append}
use Rattle.std.proofs.lemmas.List.Elements.{All-push}
use Rattle.crossbeam_queue.specs.Passes.{ruled_capacity, view}
use Rattle.ssb_lanes.proofs.BoardFacts.{each-more}
use Rattle.ssb_lanes.proofs.board.new_berths.Goals as goal

pub loop-preserved : goal.loop-preserved
loop-preserved g c =
    let inv = c.loop.invariant in
    let made = c.in_ok-berth.ensures in
    let count = inv.count in
    let more = length-append c.loop.berths.items (c.in_ok-berth.berth ∷ []) in
    rw (c.in_ok-push.ensures.items, c.in_ok-push-2.ensures.items) (record {
      each = each-more _ _ _ _ inv.each made.0;
      single = All-push (λ b. ruled_capacity b ≡ 1) _ _ inv.single made.1;
      new = All-push (λ p. view p ≡ None) _ _ inv.new made.2;
      count = omega (arith, count, more);
    })
