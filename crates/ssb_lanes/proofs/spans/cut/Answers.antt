use Rattle.std.proofs.Common.{◌/◌, refl, arith}
use Rattle.ssb_lanes.proofs.SpanFacts.{cut-inside, next-cut, reach-more, some-size}
use Rattle.ssb_lanes.proofs.spans.cut.Goals as goal

pub overflow_add-start : goal.overflow_add-start
overflow_add-start c =
    let below = c.loop-test.true in
    let inside = cut-inside c.args.len c.args.count c.loop.counter (omega (arith, below)) in
    let at = c.loop.invariant.1 in
    let fits = c.ranges.len.fits in
    omega (arith, inside, at, fits)

pub loop-preserved : goal.loop-preserved
loop-preserved c =
    let at = c.loop.invariant.1 in
    let next = next-cut c.loop.counter (c.args.len / c.args.count) in
    let len = c.in_ok-push.ensures.len in
    let made = c.loop.invariant.2 in (
      rw c.in_ok-push.ensures.items (reach-more 0 c.loop.spans.items c.loop.start _ c.loop.invariant.0 refl (some-size c.args.len c.args.count c.requires.some c.requires.enough)),
      omega (arith, at, next),
      omega (arith, len, made),
    )

pub returns-clause-spans : goal.returns-clause-spans
returns-clause-spans c =
    let size = some-size c.args.len c.args.count c.requires.some c.requires.enough in
    let at = c.loop.invariant.1 in
    let end = c.loop.auto.counter-end c.requires.some in
    let inside = cut-inside c.args.len c.args.count c.loop.counter end in
    record {
      before = c.loop.spans.items;
      last = c.from_byte.result;
      all = c.in_ok-push-2.ensures.items;
      reach = rw c.from_byte.ensures.start c.loop.invariant.0;
      in_file = λ some. rw c.from_byte.ensures.start (omega (arith, size, at, inside));
      no_end = c.from_byte.ensures.no_end;
    }

pub returns-clause-count : goal.returns-clause-count
returns-clause-count c =
    let len = c.in_ok-push-2.ensures.len in
    let made = c.loop.invariant.2 in
    let end = c.loop.auto.counter-end c.requires.some in
    let over = c.loop-test.false in
    omega (arith, len, made, end, over)
