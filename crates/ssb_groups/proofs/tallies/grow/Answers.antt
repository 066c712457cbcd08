use Rattle.std.proofs.Common.{◌≡◌, ◌∙◌, ◌<◌, ◌≤◌, [], get_or, length, sym, ap, subst, arith}
use Rattle.std.proofs.lemmas.List.{get_or-map, length-map, map-set}
use Rattle.ssb_groups.specs.Places.{AreGrown}
use Rattle.ssb_groups.specs.Tallies.{items, lists}
use Rattle.ssb_groups.specs.declared.kept.KeptTotal.TheVariants as total
use Rattle.ssb_groups.proofs.TallyFacts.{done-more, grown-more}
use Rattle.ssb_groups.proofs.tallies.grow.Goals as goal

pub returns-in_err-lengthen-clause-grown : goal.returns-in_err-lengthen-clause-grown
returns-in_err-lengthen-clause-grown c =
    let l = c.loop-at in
    let x = c.lengthen.new.tally in
    let many = l.auto.tallies in
    let lt : l.at < length l.tallies = omega (arith, many, c.loop-at-test.true) in
    let v = get_or l.tallies l.at c.index-tallies-at.result in
    let here : get_or (lists l.tallies) l.at [] ≡ items v = get_or-map items l.tallies l.at c.index-tallies-at.result [] lt in
    subst (AreGrown (lists c.args.tallies.now)) (sym (map-set items l.tallies l.at x))
    (grown-more (lists c.args.tallies.now) (lists l.tallies) l.at (items x) (omega (arith, lt, length-map l.tallies items)) l.invariant.grown
    (subst (λ t. length t ≤ length (items x)) (sym here) c.lengthen.ensures.longer)
    (λ p. c.lengthen.ensures.same p ∙ ap (λ t. get_or t p total.Null) (sym here)))

pub loop-at-preserved : goal.loop-at-preserved
loop-at-preserved c =
    let l = c.loop-at in
    let x = c.lengthen.new.tally in
    let many = l.auto.tallies in
    let lt : l.at < length l.tallies = omega (arith, many, c.loop-at-test.true) in
    let v = get_or l.tallies l.at c.index-tallies-at.result in
    let here : get_or (lists l.tallies) l.at [] ≡ items v = get_or-map items l.tallies l.at c.index-tallies-at.result [] lt in
    record {
      grown =
          subst (AreGrown (lists c.args.tallies.now)) (sym (map-set items l.tallies l.at x))
          (grown-more (lists c.args.tallies.now) (lists l.tallies) l.at (items x) (omega (arith, lt, length-map l.tallies items)) l.invariant.grown
          (subst (λ t. length t ≤ length (items x)) (sym here) c.lengthen.ensures.longer)
          (λ p. c.lengthen.ensures.same p ∙ ap (λ t. get_or t p total.Null) (sym here)));
      long = λ i below.
          subst (λ ts. c.args.groups ≤ length (get_or ts i [])) (sym (map-set items l.tallies l.at x))
          (done-more [] (λ n t. c.args.groups ≤ length t) (lists l.tallies) l.at (items x) (omega (arith, lt, length-map l.tallies items)) l.invariant.long c.in_ok-lengthen.ensures.long i below);
    }
