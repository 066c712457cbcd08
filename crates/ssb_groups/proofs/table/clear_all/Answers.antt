use Rattle.std.proofs.Common.{◌≡◌, ◌∙◌, ◌<◌, [], get_or, length, subst, sym, arith}
use Rattle.std.proofs.lemmas.List.{length-map, length-set, map-set}
use Rattle.ssb_groups.specs.Tallies.{items, lists}
use Rattle.ssb_groups.proofs.TallyFacts.{done-more}
use Rattle.ssb_groups.proofs.table.clear_all.Goals as goal

pub loop-at-preserved : goal.loop-at-preserved
loop-at-preserved c =
    let l = c.loop-at in
    let x = c.clear.new.self in
    let many = l.auto.tallies in
    let lt : l.at < length l.tallies = omega (arith, many, c.loop-at-test.true) in
    record {
      many = length-set l.tallies l.at x ∙ l.invariant.many;
      none = λ i below.
          subst (λ ts. get_or ts i [] ≡ []) (sym (map-set items l.tallies l.at x))
          (done-more [] (λ n t. t ≡ []) (lists l.tallies) l.at (items x) (omega (arith, lt, length-map l.tallies items)) l.invariant.none c.clear.ensures.items i below);
    }
