use Rattle.std.proofs.Common.{◌≡◌, ◌∙◌, ◌++◌, ◌∷◌, [], None, Some, ap, arith, length, length-append, map, refl, rules, subst, sym}
use Rattle.std.proofs.lemmas.List.Elements.{All-get_or}
use Rattle.crossbeam_queue.specs.Passes.{ruled_capacity, view}
use Rattle.ssb_lanes.specs.Berth.{known}
use Rattle.ssb_lanes.proofs.BoardFacts.{all-same, inside-next, lay-all, lay-next, next-view, pass-at, pass-set, passes-long}
use Rattle.ssb_lanes.proofs.JoiningFacts.{no-more, yields, yields-next}
use Rattle.ssb_lanes.proofs.board.lay_all.Goals as goal

pub loop-lane-init : goal.loop-lane-init
loop-lane-init g c =
    let long = passes-long _ _ c.requires.each in
    let count = c.requires.count in
    let rest : c.into_iter-lane-iterator.result.rest.items ≡ c.args.lanes.items = search rules in
    record {
      each = c.requires.each;
      views = all-same view None c.args.passes.now.items _ c.requires.new (ap length rest ∙ (omega (arith, long, count)));
      rest = rest;
      place = refl;
    }

pub lay-requires-clause-queue : goal.lay-requires-clause-queue
lay-requires-clause-queue g c =
    let inv = c.loop-lane.invariant in
    let all = yields c.loop-lane.yielded c.in-Some.lane _ _ _ inv.rest c.in-Some.ensures.steps.0 in
    let lt = inside-next c.loop-lane.yielded c.in-Some.lane c.next.new.self.rest.items c.args.lanes.items c.loop-lane.at (sym all) inv.place in
    let count = c.requires.count in (
      pass-at c.args.berths.now c.loop-lane.passes.items c.loop-lane.at _ _ inv.each (omega (arith, lt, count)) c.index-berths-at.is c.index_mut.ensures.value,
      subst (λ b. ruled_capacity b ≡ 1) (sym c.index-berths-at.is) (All-get_or (λ b. ruled_capacity b ≡ 1) c.args.berths.now c.loop-lane.at _ (omega (arith, lt, count)) c.requires.single),
    )

pub lay-requires-clause-new : goal.lay-requires-clause-new
lay-requires-clause-new g c =
    let inv = c.loop-lane.invariant in
    let next = c.in-Some.ensures.steps.0 in
    let all = yields c.loop-lane.yielded c.in-Some.lane _ _ _ inv.rest next in
    let lt = inside-next c.loop-lane.yielded c.in-Some.lane c.next.new.self.rest.items c.args.lanes.items c.loop-lane.at (sym all) inv.place in
    let count = c.requires.count in
    let long = passes-long _ _ inv.each in
    next-view (λ lane. Some (known lane.source c.args.rows.now)) None c.loop-lane.yielded c.in-Some.lane c.next.new.self.rest.items c.loop-lane.passes.items c.loop-lane.at _
    (inv.views ∙ ap (λ r. map (λ lane. Some (known lane.source c.args.rows.now)) c.loop-lane.yielded ++ map (λ _. None) r) next) inv.place (omega (arith, lt, count, long)) c.index_mut.ensures.value

pub loop-lane-preserved : goal.loop-lane-preserved
loop-lane-preserved g c =
    let inv = c.loop-lane.invariant in
    let next = c.in-Some.ensures.steps.0 in
    let all = yields c.loop-lane.yielded c.in-Some.lane _ _ _ inv.rest next in
    let lt = inside-next c.loop-lane.yielded c.in-Some.lane c.next.new.self.rest.items c.args.lanes.items c.loop-lane.at (sym all) inv.place in
    let count = c.requires.count in
    let place = inv.place in
    let n = length-append c.loop-lane.yielded (c.in-Some.lane ∷ []) in
    record {
      each = pass-set c.args.berths.now c.loop-lane.passes.items c.loop-lane.at _ _ inv.each (omega (arith, lt, count)) c.index_mut.ensures.value c.lay.ensures.queue;
      views = lay-next (λ lane. Some (known lane.source c.args.rows.now)) None c.loop-lane.yielded c.in-Some.lane c.next.new.self.rest.items c.loop-lane.passes.items c.loop-lane.at _
          (inv.views ∙ ap (λ r. map (λ lane. Some (known lane.source c.args.rows.now)) c.loop-lane.yielded ++ map (λ _. None) r) next) inv.place c.lay.ensures.view;
      rest = yields-next c.loop-lane.yielded c.in-Some.lane _ _ _ inv.rest next;
      place = omega (arith, place, n);
    }

pub returns-clause-known : goal.returns-clause-known
returns-clause-known g c =
    let inv = c.loop-lane.invariant in
    let rest = c.loop-lane.lane-iterator.rest in
    let none = c.in-None.ensures.steps.0 in
    let counted = rest.ok.0 in
    lay-all (λ lane. Some (known lane.source c.args.rows.now)) None c.loop-lane.yielded rest.items c.args.lanes.items c.loop-lane.passes.items inv.views (no-more rest.items (omega (arith, none, counted))) inv.rest
