use Rattle.std.proofs.Common.{arith}
use Rattle.ssb_load.proofs.DigitFacts.{digits-room, digit-more}
use Rattle.std.proofs.lemmas.Grind.{common_steps}
use Rattle.ssb_load.proofs.number.short_number.Goals as goal

pub overflow_mul-value : goal.overflow_mul-value
overflow_mul-value c =
    let lt = c.loop-k-test.true in
    let count = c.if-count-gt18.false in
    let room = digits-room c.loop-k.k c.loop-k.value (omega (arith, lt, count)) c.loop-k.invariant.2 in
    omega (arith, room)

pub overflow_add-value : goal.overflow_add-value
overflow_add-value c =
    let lt = c.loop-k-test.true in
    let count = c.if-count-gt18.false in
    let room = digits-room c.loop-k.k c.loop-k.value (omega (arith, lt, count)) c.loop-k.invariant.2 in
    let d = c.from.ensures in
    let hi = c.if-byte-gt57.false in
    omega (arith, room, d, hi)

pub loop-k-preserved : goal.loop-k-preserved
loop-k-preserved c =
    digit-more c.args.bytes.now c.loop-k.k c.loop-k.value c.from.result _ c.loop-k-test.true c.loop-k.invariant.0 c.loop-k.invariant.1 c.loop-k.invariant.2 c.if-byte-lt48.false c.if-byte-gt57.false c.from.ensures

pub returns : goal.returns
returns c = grind (arith, common_steps)
