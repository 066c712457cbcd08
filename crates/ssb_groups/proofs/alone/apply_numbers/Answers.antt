use Rattle.std.proofs.Common.{◌≡◌, ◌∙◌, get_or, ap, ap₂, arith, of_z, pos, rules, to_z, w64}
use Rattle.std.proofs.lemmas.List.{get_or-set_other, length-set}
use Rattle.ssb_cells.specs.Cell.{number}
use Rattle.ssb_groups.specs.Outcomes.{exact}
use Rattle.ssb_groups.specs.Value.{checked, known}
use Rattle.ssb_groups.proofs.NumberFacts.{numbers-applied}
use Rattle.ssb_groups.proofs.TallyFacts.{done-more}
use Rattle.ssb_groups.proofs.alone.apply_numbers.Goals as goal

pub loop-at-preserved : goal.loop-at-preserved
loop-at-preserved c =
    let l = c.loop-at in
    let o = c.args.operation in
    let many = l.invariant.many in
    let lt = c.loop-at-test.true in
    let x = to_z w64 (of_z w64 c.in-Some.number) in
    let same : x ≡ c.in-Some.number = search rules in
    let left : to_z w64 (of_z w64 (get_or l.left l.at (pos 0))) ≡ get_or l.left l.at (pos 0) = search rules in
    let right : to_z w64 (of_z w64 (get_or c.args.right.now l.at (pos 0))) ≡ get_or c.args.right.now l.at (pos 0) = search rules in
    let here : known (number x) ≡ checked (exact o (get_or c.args.left.now l.at (pos 0)) (get_or c.args.right.now l.at (pos 0))) =
    ap (λ z. known (number z)) same ∙ c.in-Some.ensures ∙ ap₂ (λ a b. checked (exact o a b)) (left ∙ l.invariant.later l.at (omega arith)) right in
    record {
      many = length-set l.left l.at x ∙ many;
      done = done-more (pos 0) (λ k z. known (number z) ≡ checked (exact o (get_or c.args.left.now k (pos 0)) (get_or c.args.right.now k (pos 0)))) l.left l.at x (omega (arith, many, lt)) l.invariant.done here;
      later = λ k past. get_or-set_other l.left l.at k x (pos 0) (λ h. absurd (omega (arith, past, h))) ∙ l.invariant.later k (omega (arith, past));
    }

pub returns : goal.returns
returns c = λ f yes itself.
    let l = c.loop-at in
    let past = c.loop-at-test.false in
    numbers-applied c.args.operation f c.args.left.now c.args.right.now l.left itself c.requires.many l.invariant.many c.requires.left c.requires.right (λ n lt. l.invariant.done n (omega (arith, past, lt)))
