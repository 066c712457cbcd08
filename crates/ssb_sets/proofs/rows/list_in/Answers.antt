use Rattle.std.proofs.Common.{ℕ, ◌∙◌, ◌≤◌, ◌-◌, ◌+◌, ap, arith, drop, filter, length, map, take, refl}
use Rattle.std.specs.List.{range_with_len}
use Rattle.ssb_sets.specs.Passing.{passes_at}
use Rattle.ssb_sets.proofs.MarkRows.{filter-range-same}
use Rattle.ssb_sets.proofs.CheckFacts.{each-ok}
use Rattle.ssb_sets.proofs.RowFacts.{stretch-long, stretch-read}
use Rattle.ssb_sets.proofs.rows.list_in.Goals as goal

pub returns : goal.returns
returns g c =
    let order = c.requires.order in
    let there = c.requires.there in
    let from = c.args.from in
    let n = c.args.end - from in
    let wide = g.T.Number.wide in
    let numbers = c.args.numbers.now in
    let some = take n (drop from numbers) in
    let le : from + n ≤ length numbers = omega (arith, order, there) in
    let asked = g.A.Asks.says c.args.asked in
    let q = λ (r : ℕ). passes_at asked (map wide some) (r - from) in
    each-ok c.list_all.result (λ is.
    is ∙ ap (λ k. filter q (range_with_len from k)) (stretch-long wide numbers some from n refl le)
    ∙ filter-range-same q (passes_at asked (map wide numbers)) from n (λ k lt. ap asked (stretch-read wide numbers some from n refl le k lt))) c.list_all.ensures
