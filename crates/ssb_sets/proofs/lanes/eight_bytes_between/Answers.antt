use Rattle.std.proofs.Common.{◌≡◌, arith, get_or, pos, rules, to_z, of_z, w64}
use Rattle.std.proofs.lemmas.Int.{ints}
use Rattle.ssb_sets.proofs.LaneFacts.{lanes-between}
use Rattle.ssb_sets.proofs.lanes.eight_bytes_between.Goals as goal

pub returns : goal.returns
returns c = λ i lt.
    let ns = c.args.numbers.now in
    let n = get_or ns i (pos 0) in
    let within = c.requires.within i lt in
    let low : to_z w64 (of_z w64 c.args.low) ≡ c.args.low = search rules in
    let high : to_z w64 (of_z w64 c.args.high) ≡ c.args.high = search rules in
    let fits : to_z w64 (of_z w64 n) ≡ n = omega (arith, ints, within.0, within.1) in
    lanes-between w64 ns c.requires.many i lt (of_z w64 c.args.low) (of_z w64 c.args.high) c.args.low c.args.high low high fits
