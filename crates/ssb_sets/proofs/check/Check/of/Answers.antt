use Rattle.std.proofs.Common.{◌≡◌, ◌∙◌, ◌-ℤ◌, FitsSigned, arith, pos, rules, sym, to_z, of_z, w64}
use Rattle.std.proofs.lemmas.Int.{ints}
use Rattle.ssb_sets.proofs.CheckFacts.{run-says}
use Rattle.ssb_sets.proofs.check.Check.of.Goals as goal

pub returns-in-Some-2 : goal.returns-in-Some-2
returns-in-Some-2 c n low high =
    let right = rw c.in-Some-2.is at c.in_ok-check.ensures in
    right n
    (λ lt. c.in-Some.ensures.stays n (omega (arith, ints, low)) (omega (arith, ints, lt)) ∙ sym c.has-below.ensures)
    (λ lt. c.last_other-to.ensures n (omega (arith, ints, lt)) (omega (arith, ints, high)))

pub returns-then-has_none : goal.returns-then-has_none
returns-then-has_none c n low high =
    let first = to_z w64 (of_z w64 c.in-Some.first) in
    let second = to_z w64 (of_z w64 c.in-Some-cut_within.second) in
    let fits_first : FitsSigned w64 c.in-Some.first = search rules in
    let fits_second : FitsSigned w64 c.in-Some-cut_within.second = search rules in
    let order = c.in-Some-cut_within.ensures.behind in
    let top : to_z w64 (of_z w64 (second -ℤ pos 1)) ≡ c.in-Some-cut_within.second -ℤ pos 1 = omega (arith, ints, fits_first, fits_second, order) in
    run-says c.args.set.now first (to_z w64 (of_z w64 (second -ℤ pos 1))) n
    (λ lt. c.in-Some.ensures.stays n (omega (arith, ints, low)) (omega (arith, ints, lt)) ∙ sym c.has-below.ensures ∙ c.if-not-below.true)
    (λ le lt. c.in-Some-cut_within.ensures.stays n (omega (arith, ints, le)) (omega (arith, ints, lt, top)) ∙ sym c.has-behind.ensures ∙ c.if-behind.true)
    (λ gt. c.has_none.ensures c.if-has_none.true n (omega (arith, ints, gt, top)) (omega (arith, ints, high)))
