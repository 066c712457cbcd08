use Rattle.std.proofs.Common.{◌≡◌, ◌∙◌, ◌≤◌, ◌-◌, ◌+◌, ◌<◌, ℕ, ap, arith, drop, get_or, length, map, pos, refl, rules, subst, sym, take, to_z, of_z, w64}
use Rattle.ssb_sets.specs.Marks.{is_between}
use Rattle.ssb_sets.specs.Passing.{passes_at}
use Rattle.ssb_sets.proofs.MarkFacts.{marks-narrowed}
use Rattle.ssb_sets.proofs.RowFacts.{stretch-long, stretch-read, stretch-within, within-offset}
use Rattle.ssb_sets.proofs.marks.Marks.clear_stretch.Goals as goal

pub returns-clause-marks : goal.returns-clause-marks
returns-clause-marks g c = λ p marked.
    let order = c.requires.order in
    let there = c.requires.there in
    let n = c.args.end - c.args.from in
    let numbers = c.args.numbers.now in
    let some = take n (drop c.args.from numbers) in
    let le : c.args.from + n ≤ length numbers = omega (arith, order, there) in
    let long : length some ≡ n = stretch-long g.T.Number.wide numbers some c.args.from n refl le in
    let low : to_z w64 (of_z w64 c.args.low) ≡ c.args.low = search rules in
    let high : to_z w64 (of_z w64 c.args.high) ≡ c.args.high = search rules in
    let q = λ (i : ℕ). is_between c.args.low c.args.high (get_or (map g.T.Number.wide some) i (pos 0)) in
    let r = passes_at (is_between c.args.low c.args.high) (map g.T.Number.wide numbers) in
    marks-narrowed p q r c.args.from n c.args.self.now.words c.clear_in.new.words marked
    (λ i lt. simp (low, high) at (c.clear_in.ensures.each i (subst (λ m. i < m) (sym long) lt)))
    (λ i past unset. c.clear_in.ensures.none i (subst (λ m. m ≤ i) (sym long) past) unset)
    (λ i lt. ap (is_between c.args.low c.args.high) (ap (λ k. get_or (map g.T.Number.wide some) k (pos 0)) (let e : i ≡ c.args.from + i - c.args.from = omega arith in e) ∙ stretch-read g.T.Number.wide numbers some c.args.from n refl le i lt))

pub returns-clause-within : goal.returns-clause-within
returns-clause-within g c =
    let order = c.requires.order in
    let there = c.requires.there in
    stretch-within g.T.Number.wide c.args.numbers.now _ c.args.from (c.args.end - c.args.from) refl (omega (arith, order, there)) g.T.Number.bounds (within-offset g.T.Number.bounds _ c.args.from _ c.clear_in.ensures.within)
