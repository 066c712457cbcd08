use Rattle.std.proofs.Common.{ℕ, ◌≡◌, ◌∙◌, ◌<◌, ap, arith, get_or, map, pos, rules, sym, to_z, of_z, w64}
use Rattle.ssb_sets.specs.Marks.{is_between}
use Rattle.ssb_sets.proofs.MarkFacts.{picked-start, picked-with, picked-without}
use Rattle.ssb_sets.proofs.RowFacts.{wide-read}
use Rattle.ssb_sets.proofs.marks.few_between.Goals as goal
use Rattle.ssb_sets.proofs.marks.few_between.Goals.{then-not-is_between, else-not-is_between}

pub loop-i-init : goal.loop-i-init
loop-i-init g c = picked-start _

pub loop-i-preserved : goal.loop-i-preserved
loop-i-preserved g c =
    let p = λ (k : ℕ). is_between (to_z w64 (of_z w64 c.args.low)) (to_z w64 (of_z w64 c.args.high)) (get_or (map g.T.Number.wide c.args.numbers.now) k (pos 0)) in
    let few = c.requires in
    let more = c.loop-i-test.true in
    let lt : c.loop-i.i < 64 = omega (arith, few, more) in
    let number : to_z w64 (of_z w64 c.wide-number.result) ≡ c.wide-number.result = search rules in
    let read = wide-read g.T.Number.wide c.args.numbers.now c.loop-i.i c.index-numbers-i.result more c.index-numbers-i.is ∙ sym c.wide-number.ensures.number in
    let told = ap (is_between (to_z w64 (of_z w64 c.args.low)) (to_z w64 (of_z w64 c.args.high))) (read ∙ sym number) ∙ sym c.is_between.ensures in
    elim c.if-not-is_between.branch [
      | then-not-is_between w ↦ rw w.word-is (picked-without p c.loop-i.word c.loop-i.i lt c.loop-i.invariant (told ∙ w.if-not-is_between.true))
      | else-not-is_between w ↦ rw w.word-is (picked-with p c.loop-i.word c.loop-i.i lt c.loop-i.invariant (told ∙ w.if-not-is_between.false))
    ]

pub returns : goal.returns
returns g c k lt =
    let past = c.loop-i-test.false in
    let low : to_z w64 (of_z w64 c.args.low) ≡ c.args.low = search rules in
    let high : to_z w64 (of_z w64 c.args.high) ≡ c.args.high = search rules in
    simp (low, high) at (c.loop-i.invariant.done k (omega (arith, lt, past)))
