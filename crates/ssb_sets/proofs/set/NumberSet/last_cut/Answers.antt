use Rattle.std.proofs.Common.{◌≡◌, ◌-◌, get_or, length, pos, rules, to_z, of_z, w64}
use Rattle.ssb_sets.proofs.StayFacts.{last-stays}
use Rattle.ssb_sets.proofs.set.NumberSet.last_cut.Goals as goal

pub returns : goal.returns
returns c =
    let cuts = c.as_slice-cuts.result.now in
    let exact : to_z w64 (of_z w64 (get_or cuts (length cuts - 1) (pos 0))) ≡ get_or cuts (length cuts - 1) (pos 0) = search rules in
    rw exact (λ n le. last-stays c.args.self.now cuts n c.as_slice-cuts.ensures.value c.if-cuts-eq0.false le)
