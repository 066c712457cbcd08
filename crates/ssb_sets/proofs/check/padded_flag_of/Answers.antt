use Rattle.std.proofs.Common.{◌≡◌, ◌<◌, ◌≤◌, ◌<ℤ◌, ◌-ℤ◌, arith, length, pos, rules, to_z, of_z, unsigned_abs, w64}
use Rattle.std.proofs.lemmas.Int.{ints}
use Rattle.ssb_sets.proofs.CheckFacts.{padded-says}
use Rattle.ssb_sets.proofs.check.padded_flag_of.Goals as goal

pub returns : goal.returns
returns c =
    let flags = c.args.flags.now in
    let base : to_z w64 (of_z w64 c.args.base) ≡ c.args.base = search rules in
    let number : to_z w64 (of_z w64 c.args.number) ≡ c.args.number = search rules in
    let fits = c.ranges.number.sfits in
    let some : 0 < length flags = search rules in
    let away : c.abs_diff.result ≡ unsigned_abs (pos 9223372036854775807 -ℤ c.args.base) = simp base at c.abs_diff.ensures in
    let le = c.if-abs_diff-count.false in
    let room : length flags ≤ unsigned_abs (pos 9223372036854775807 -ℤ c.args.base) = omega (arith, away, le) in
    let far : c.args.number <ℤ c.args.base → length flags ≤ c.distance.result = λ lt. (let below = c.distance.ensures.below (omega (arith, ints, base, number, lt)) in omega (arith, ints, below, base, number, room, fits)) in
    padded-says flags c.args.base c.args.number c.distance.result c.min-place.result some (simp (base, number) at c.distance.ensures.above) far c.min-place.ensures
