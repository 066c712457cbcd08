use Rattle.std.proofs.Common.{◌≡◌, rules, subst, sym, to_z, of_z, w64}
use Rattle.ssb_sets.specs.Orders.{ArePassed}
use Rattle.ssb_sets.proofs.ParityFacts.{said_by-passed}
use Rattle.ssb_sets.proofs.set.NumberSet.has.Goals as goal

pub returns : goal.returns
returns c =
    let cuts = c.args.self.now.cuts.items in
    let exact : to_z w64 (of_z w64 c.args.number) ≡ c.args.number = search rules in
    let point = subst (λ n. ArePassed cuts n c.passed.result) exact c.passed.ensures in
    sym (said_by-passed c.args.self.now.first cuts c.passed.result c.args.number point.within point.passed point.ahead)
