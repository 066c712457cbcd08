use Rattle.std.proofs.Common.{◌≡◌, ◌∙◌, ◌<◌, ◌*◌, ◌+◌, ap, arith, length, not}
use Rattle.ssb_packed.specs.Lent.{flag_at}
use Rattle.ssb_sets.proofs.MarkFacts.{has_bit-not, narrowed-more, narrowed-start}
use Rattle.ssb_sets.proofs.marks.clear_flagged.Goals as goal

pub loop-at-init : goal.loop-at-init
loop-at-init c = narrowed-start _ _

pub loop-at-preserved : goal.loop-at-preserved
loop-at-preserved c =
    let there = c.requires.there in
    let same = c.loop-at.auto.words in
    let more = c.loop-at-test.true in
    let lt : c.loop-at.at < length c.loop-at.words = omega (arith, there, same, more) in
    narrowed-more _ c.args.words.now c.loop-at.words c.loop-at.at _ lt c.loop-at.invariant
    (λ j small.
    has_bit-not c.flags_from.result j c.flags_from.type_inv small
    ∙ ap not (c.flags_from.ensures j small ∙ ap (flag_at c.args.flags.now) (let e : c.args.from + 64 * c.loop-at.at + j ≡ c.args.from + (64 * c.loop-at.at + j) = omega arith in e)))

pub returns-clause-each : goal.returns-clause-each
returns-clause-each c i lt =
    let past = c.loop-at-test.false in
    c.loop-at.invariant.done i (omega (arith, past, lt))

pub returns-clause-same : goal.returns-clause-same
returns-clause-same c i le =
    let end = c.loop-at.auto.at-end in
    c.loop-at.invariant.ahead i (omega (arith, end, le))
