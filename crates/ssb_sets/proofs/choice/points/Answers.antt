use Rattle.std.proofs.Common.{◌≡◌, ◌∙◌, ◌+ℤ◌, ap, arith, not, pos, refl, rules, subst, sym, to_z, of_z, w64}
use Rattle.std.proofs.lemmas.List.{take_all}
use Rattle.std.specs.HashSet.{contains}
use Rattle.std.specs.Ordering.{int_eq}
use Rattle.ssb_sets.specs.NumberSets.{said_by}
use Rattle.ssb_sets.specs.Stays.{IsPoint}
use Rattle.ssb_sets.proofs.PointFacts.{point-more, points-say}
use Rattle.ssb_sets.proofs.SetFacts.{not-not}
use Rattle.ssb_sets.proofs.choice.points.Goals as goal

pub loop-passed-preserved : goal.loop-passed-preserved
loop-passed-preserved c =
    let number = to_z w64 (of_z w64 c.in-Some.number) in
    let exact : number ≡ c.in-Some.number = search rules in
    let point = subst (IsPoint c.as_slice-cuts.result.now c.loop-passed.passed) (sym exact) c.in-Some.ensures in
    let none = sym (not-not (contains int_eq c.loop-passed.numbers number)) ∙ ap not (sym c.in_ok-insert.ensures.added ∙ c.if-not-branch.false) in
    record {
      within = point.there;
      says = point-more c.as_slice-cuts.result.now c.loop-passed.passed number (number +ℤ pos 1) (contains int_eq c.loop-passed.numbers) (contains int_eq c.insert.new.self)
          point.there point.first point.next refl c.loop-passed.invariant.says c.in_ok-insert.ensures.updates.0 none;
    }

pub returns : goal.returns
returns c n =
    let past = c.loop-passed-test.false in
    points-say c.args.set.now.first c.args.set.now.cuts.items n (contains int_eq c.loop-passed.numbers n)
    (c.loop-passed.invariant.says n ∙ ap (λ cs. said_by _ cs n) (take_all c.loop-passed.passed c.as_slice-cuts.result.now (omega (arith, past)) ∙ c.as_slice-cuts.ensures.value))
