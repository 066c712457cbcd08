use Rattle.std.proofs.Common.{◌≡◌, ◌∙◌, ap, not, refl, rules, subst, sym, to_z, of_z, w64}
use Rattle.ssb_sets.specs.Merging.{IsNext}
use Rattle.ssb_sets.specs.NumberSets.{has}
use Rattle.ssb_sets.proofs.MergeFacts.{all-below, goes-on, merging-starts, merging-step, other-answer, same-answer}
use Rattle.ssb_sets.proofs.SetFacts.{turned_below, turned_from}
use Rattle.ssb_sets.proofs.merge.merged.Goals as goal

pub cuts-init : goal.cuts-init
cuts-init c =
    let exact : to_z w64 (of_z w64 c.in-Some.least) ≡ c.in-Some.least = search rules in
    merging-starts c.args.by c.args.first_one c.args.ones.now c.args.first_other c.args.others.now c.of-said.result _ c.constant-made.result
    c.requires.ones c.requires.others (subst (IsNext c.args.ones.now 0 c.args.others.now 0) (sym exact) c.in-Some.ensures) c.of-said.ensures c.constant-made.ensures.same c.constant-made.ensures.none

pub cuts-preserved-in_ok-turn_from : goal.cuts-preserved-in_ok-turn_from
cuts-preserved-in_ok-turn_from c =
    let exact : to_z w64 (of_z w64 c.in-Some-next_cut.cut) ≡ c.in-Some-next_cut.cut = search rules in
    let m = c.cuts.invariant in
    let at = to_z w64 (of_z w64 c.in-Some-next_cut.cut) in
    let next = subst (IsNext c.args.ones.now c.cuts.one.passed c.args.others.now c.cuts.other.passed) (sym exact) c.in-Some-next_cut.ensures in
    let turned = c.in_ok-turn_from.ensures in
    merging-step c.args.by c.args.first_one c.args.ones.now c.args.first_other c.args.others.now c.cuts.one c.cuts.other c.passed-one.result c.passed-other.result c.cuts.said c.of-now.result _ at c.cuts.made c.turn_from.new.self
    c.requires.ones c.requires.others m next c.passed-one.ensures c.passed-other.ensures c.of-now.ensures turned.order
    (λ n lt. turned.says n ∙ turned_below n (has c.cuts.made n) at lt)
    (λ n ge is. turned.says n ∙ turned_from n (has c.cuts.made n) at ge ∙ ap not is ∙ other-answer c.of-now.result c.cuts.said c.if-now-said.true)

pub cuts-preserved : goal.cuts-preserved
cuts-preserved c =
    let exact : to_z w64 (of_z w64 c.in-Some-next_cut.cut) ≡ c.in-Some-next_cut.cut = search rules in
    let m = c.cuts.invariant in
    let at = to_z w64 (of_z w64 c.in-Some-next_cut.cut) in
    let next = subst (IsNext c.args.ones.now c.cuts.one.passed c.args.others.now c.cuts.other.passed) (sym exact) c.in-Some-next_cut.ensures in
    let same = same-answer c.of-now.result c.cuts.said c.if-now-said.false in
    merging-step c.args.by c.args.first_one c.args.ones.now c.args.first_other c.args.others.now c.cuts.one c.cuts.other c.passed-one.result c.passed-other.result c.cuts.said c.cuts.said _ at c.cuts.made c.cuts.made
    c.requires.ones c.requires.others m next c.passed-one.ensures c.passed-other.ensures (same ∙ c.of-now.ensures)
    (all-below c.args.by c.args.first_one c.args.ones.now c.args.first_other c.args.others.now c.cuts.one c.cuts.other c.passed-one.result c.passed-other.result c.cuts.said c.cuts.said _ at c.cuts.made c.cuts.made m next)
    (λ n lt. refl)
    (λ n ge is. is)

pub cuts-smaller-in_ok-turn_from : goal.cuts-smaller-in_ok-turn_from
cuts-smaller-in_ok-turn_from c =
    let exact : to_z w64 (of_z w64 c.in-Some-next_cut.cut) ≡ c.in-Some-next_cut.cut = search rules in
    goes-on c.args.ones.now c.args.others.now c.cuts.one c.cuts.other c.passed-one.result c.passed-other.result _
    (subst (IsNext c.args.ones.now c.cuts.one.passed c.args.others.now c.cuts.other.passed) (sym exact) c.in-Some-next_cut.ensures) c.passed-one.ensures c.passed-other.ensures
