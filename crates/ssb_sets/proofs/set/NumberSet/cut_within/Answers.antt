use Rattle.std.proofs.Common.{◌≡◌, FitsSigned, arith, get_or, pos, rules, subst, sym, to_z, of_z, w64}
use Rattle.std.proofs.lemmas.Int.{ints}
use Rattle.ssb_sets.specs.Orders.{ArePassed}
use Rattle.ssb_sets.proofs.StayFacts.{less-false, less-true, stays-at}
use Rattle.ssb_sets.proofs.set.NumberSet.cut_within.Goals as goal

pub returns-then-passed-cuts : goal.returns-then-passed-cuts
returns-then-passed-cuts c n from le =
    let cuts = c.as_slice-cuts.result.now in
    let same : to_z w64 (of_z w64 c.args.from) ≡ c.args.from = search rules in
    let told = subst (λ m. ArePassed c.args.self.now.cuts.items m c.passed-passed.result) same c.passed-passed.ensures in
    let point = subst (λ xs. ArePassed xs c.args.from c.passed-passed.result) (sym c.as_slice-cuts.ensures.value) told in
    let past = c.if-passed-cuts.true in
    stays-at c.args.self.now cuts c.passed-passed.result c.args.from n c.as_slice-cuts.ensures.value point.passed (λ lt. absurd (omega (arith, lt, past))) from

pub returns-then-next-greatest : goal.returns-then-next-greatest
returns-then-next-greatest c n from le =
    let cuts = c.as_slice-cuts.result.now in
    let same : to_z w64 (of_z w64 c.args.from) ≡ c.args.from = search rules in
    let told = subst (λ m. ArePassed c.args.self.now.cuts.items m c.passed-passed.result) same c.passed-passed.ensures in
    let point = subst (λ xs. ArePassed xs c.args.from c.passed-passed.result) (sym c.as_slice-cuts.ensures.value) told in
    let next = get_or cuts c.passed-passed.result (pos 0) in
    let fits : FitsSigned w64 next = search rules in
    let above = less-true (to_z w64 (of_z w64 c.args.greatest)) (to_z w64 (of_z w64 next)) c.if-next-greatest.true in
    stays-at c.args.self.now cuts c.passed-passed.result c.args.from n c.as_slice-cuts.ensures.value point.passed (λ lt. omega (arith, ints, above, fits, le)) from

pub returns : goal.returns
returns c =
    let cuts = c.as_slice-cuts.result.now in
    let same : to_z w64 (of_z w64 c.args.from) ≡ c.args.from = search rules in
    let told = subst (λ m. ArePassed c.args.self.now.cuts.items m c.passed-passed.result) same c.passed-passed.ensures in
    let point = subst (λ xs. ArePassed xs c.args.from c.passed-passed.result) (sym c.as_slice-cuts.ensures.value) told in
    let next = get_or cuts c.passed-passed.result (pos 0) in
    let exact : to_z w64 (of_z w64 next) ≡ next = search rules in
    let there = c.if-passed-cuts.false in
    let above = point.ahead c.passed-passed.result (omega arith) (omega (arith, there)) in
    let within = less-false (to_z w64 (of_z w64 c.args.greatest)) (to_z w64 (of_z w64 next)) c.if-next-greatest.false in
    record {
      behind = omega (arith, ints, above, exact);
      within = omega (arith, ints, within);
      stays = λ n from lt. stays-at c.args.self.now cuts c.passed-passed.result c.args.from n c.as_slice-cuts.ensures.value point.passed (λ _. rw exact at lt) from;
    }
