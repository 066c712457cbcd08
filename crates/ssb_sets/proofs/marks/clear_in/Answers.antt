use Rattle.std.proofs.Common.{◌≡◌, ◌∙◌, ◌*◌, ◌/◌, ◌+◌, ◌<◌, ℕ, ap, arith, get_or, length, map, pos, rules, subst, sym, to_z, of_z, w64}
use Rattle.ssb_sets.specs.Marks.{is_between}
use Rattle.ssb_sets.specs.Values.{IsWithin}
use Rattle.ssb_sets.proofs.MarkFacts.{Narrowed, last-each, last-none, narrowed-more, narrowed-start, tail-long, tail-read}
use Rattle.ssb_sets.proofs.marks.clear_in.Goals as goal

pub between-requires-clause-within : goal.between-requires-clause-within
between-requires-clause-within g c = λ i lt.
    let more = c.loop-at-test.true in
    subst (IsWithin g.T.Number.bounds) (sym (tail-read g.T.Number.wide c.args.numbers.now (c.loop-at.at * 64) i)) (c.read_all.ensures (c.loop-at.at * 64 + i) (omega (arith, more, lt)))

pub loop-at-init : goal.loop-at-init
loop-at-init g c = narrowed-start _ _

pub loop-at-preserved : goal.loop-at-preserved
loop-at-preserved g c =
    let room = c.requires in
    let same = c.loop-at.auto.words in
    let more = c.loop-at-test.true in
    let lt : c.loop-at.at < length c.loop-at.words = omega (arith, room, same, more) in
    let wide = map g.T.Number.wide c.args.numbers.now in
    narrowed-more _ c.args.words.now c.loop-at.words c.loop-at.at _ lt c.loop-at.invariant
    (λ j small.
    c.between.ensures j small
    ∙ ap (is_between (to_z w64 (of_z w64 c.args.low)) (to_z w64 (of_z w64 c.args.high))) (
    tail-read g.T.Number.wide c.args.numbers.now (c.loop-at.at * 64) j
    ∙ ap (λ k. get_or wide k (pos 0)) (let e : c.loop-at.at * 64 + j ≡ 64 * c.loop-at.at + j = omega arith in e)))

pub returns-then-whole-numbers-clause-each : goal.returns-then-whole-numbers-clause-each
returns-then-whole-numbers-clause-each g c = λ i below.
    let room = c.requires in
    let same = c.loop-at.auto.words in
    let end = c.loop-at.auto.at-end in
    let past = c.loop-at-test.false in
    let some = c.if-whole-numbers.true in
    let n = length c.args.numbers.now in
    let numbers = c.args.numbers.now in
    let lt : n / 64 < length c.loop-at.words = omega (arith, room, same, some) in
    let is : c.loop-at.at ≡ n / 64 = omega (arith, end, past) in
    let low : to_z w64 (of_z w64 c.args.low) ≡ c.args.low = search rules in
    let high : to_z w64 (of_z w64 c.args.high) ≡ c.args.high = search rules in
    let q = λ (k : ℕ). is_between (to_z w64 (of_z w64 c.args.low)) (to_z w64 (of_z w64 c.args.high)) (get_or (map g.T.Number.wide numbers) k (pos 0)) in
    simp (low, high) at (
    last-each q c.args.words.now c.loop-at.words (n / 64) c.few_between.result lt (subst (λ k. Narrowed q c.args.words.now c.loop-at.words (64 * k)) is c.loop-at.invariant) n (omega arith)
    (λ j small.
    c.few_between.ensures j (let long = tail-long numbers (n / 64 * 64) in omega (arith, long, small))
    ∙ ap (is_between (to_z w64 (of_z w64 c.args.low)) (to_z w64 (of_z w64 c.args.high))) (
    tail-read g.T.Number.wide numbers (n / 64 * 64) j
    ∙ ap (λ k. get_or (map g.T.Number.wide numbers) k (pos 0)) (let e : n / 64 * 64 + j ≡ 64 * (n / 64) + j = omega arith in e)))
    i below)

pub returns-then-whole-numbers-clause-none : goal.returns-then-whole-numbers-clause-none
returns-then-whole-numbers-clause-none g c = λ i above unset.
    let room = c.requires in
    let same = c.loop-at.auto.words in
    let end = c.loop-at.auto.at-end in
    let past = c.loop-at-test.false in
    let some = c.if-whole-numbers.true in
    let n = length c.args.numbers.now in
    let lt : n / 64 < length c.loop-at.words = omega (arith, room, same, some) in
    let is : c.loop-at.at ≡ n / 64 = omega (arith, end, past) in
    let q = λ (k : ℕ). is_between (to_z w64 (of_z w64 c.args.low)) (to_z w64 (of_z w64 c.args.high)) (get_or (map g.T.Number.wide c.args.numbers.now) k (pos 0)) in
    last-none q c.args.words.now c.loop-at.words (n / 64) c.few_between.result lt (subst (λ k. Narrowed q c.args.words.now c.loop-at.words (64 * k)) is c.loop-at.invariant) n (omega arith) (omega arith) i above unset
