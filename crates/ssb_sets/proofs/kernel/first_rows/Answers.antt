use Rattle.std.proofs.Common.{ℕ, ◌≡◌, ◌∙◌, ◌<◌, ◌+◌, ◌-◌, ap, arith, length, map, rules, sym, to_z, of_z, w64}
use Rattle.ssb_sets.specs.Passing.{passes_at}
use Rattle.ssb_sets.proofs.RowFacts.{listed-more, listed-same, says-row, wide-read}
use Rattle.ssb_sets.proofs.kernel.first_rows.Goals as goal
use Rattle.ssb_sets.proofs.kernel.first_rows.Goals.{then-passes, else-passes}

pub loop-i-preserved : goal.loop-i-preserved
loop-i-preserved g c =
    let wide = g.T.Number.wide in
    let ns = map wide c.args.numbers.now in
    let first = c.args.first in
    let i = c.loop-i.i in
    let before = c.loop-i.invariant in
    let behind = before.behind in
    let many = c.requires.many in
    let all = c.loop-i.auto.rows in
    let more = c.loop-i-test.true in
    let here : i < length c.args.numbers.now = omega (arith, more) in
    let room : c.loop-i.left < length c.loop-i.rows = omega (arith, all, many, more, behind) in
    let exact : to_z w64 (of_z w64 c.wide.result) ≡ c.wide.result = search rules in
    let read = wide-read wide c.args.numbers.now i c.index-numbers-i.result here c.index-numbers-i.is ∙ sym c.wide.ensures.number in
    let asked = g.A.Asks.says c.args.asked in
    let q = λ (r : ℕ). passes_at asked ns (r - first) in
    let at : first + i - first ≡ i = omega arith in
    let told : q (first + i) ≡ c.passes.result = ap (passes_at asked ns) at ∙ says-row asked ns i _ c.passes.result read (simp exact at c.passes.ensures) in
    elim c.if-passes.branch [
      | then-passes w ↦ rw w.left-is (record { front = listed-more q first i c.loop-i.left c.loop-i.rows room (told ∙ w.if-passes.true) before.front; behind = omega (arith, behind) })
      | else-passes w ↦ rw w.left-is (record { front = listed-same q first i c.loop-i.left c.loop-i.rows (told ∙ w.if-passes.false) before.front; behind = omega (arith, behind) })
    ]
