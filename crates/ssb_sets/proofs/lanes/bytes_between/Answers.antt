use Rattle.std.proofs.Common.{◌≡◌, ◌∙◌, ◌≤ℤ◌, arith, get_or, neg_ℤ, pos, rules, to_z, of_z, w8, w64}
use Rattle.std.proofs.lemmas.Int.{ints}
use Rattle.ssb_sets.proofs.LaneFacts.{between-cut, lanes-between, max-below, min-above, not-below}
use Rattle.ssb_sets.proofs.lanes.bytes_between.Goals as goal

pub returns : goal.returns
returns c = λ i lt.
    let ns = c.args.numbers.now in
    let n = get_or ns i (pos 0) in
    let within = c.requires.within i lt in
    let m = c.max-least.result in
    let k = c.min-greatest.result in
    let low : to_z w64 (of_z w64 c.args.low) ≡ c.args.low = search rules in
    let high : to_z w64 (of_z w64 c.args.high) ≡ c.args.high = search rules in
    let m-is = simp low at c.max-least.ensures.value in
    let k-is = simp high at c.min-greatest.ensures.value in
    let above = c.max-least.ensures.other_bound in
    let below = c.min-greatest.ensures.other_bound in
    let m-below : m ≤ℤ pos 127 = max-below (neg_ℤ (pos 128)) (pos 127) c.args.low m m-is (not-below (pos 127) c.args.low (simp low at c.if-low-gt127.false)) (omega (arith, ints)) in
    let k-above : neg_ℤ (pos 128) ≤ℤ k = min-above (neg_ℤ (pos 128)) (pos 127) c.args.high k k-is (not-below c.args.high (neg_ℤ (pos 128)) (simp high at c.if-high-ltminus128.false)) (omega (arith, ints)) in
    let least = of_z w8 (to_z w64 (of_z w64 m)) in
    let greatest = of_z w8 (to_z w64 (of_z w64 k)) in
    let least-is : to_z w8 least ≡ m = omega (arith, ints, above, m-below) in
    let greatest-is : to_z w8 greatest ≡ k = omega (arith, ints, below, k-above) in
    let fits : to_z w8 (of_z w8 n) ≡ n = omega (arith, ints, within.0, within.1) in
    lanes-between w8 ns c.requires.many i lt least greatest m k least-is greatest-is fits
    ∙ between-cut (neg_ℤ (pos 128)) (pos 127) c.args.low c.args.high n m k m-is k-is within.0 within.1
