use Rattle.std.proofs.Common.{◌≡◌, int_le, rules, subst, sym, to_z, of_z, w64}
use Rattle.std.proofs.lemmas.List.Sorted.{IsPartitionPoint-from_clause}
use Rattle.ssb_sets.specs.Orders.{ArePassed, IsOrdered}
use Rattle.ssb_sets.proofs.ParityFacts.{by-parts, in-parts}
use Rattle.ssb_sets.proofs.set.NumberSet.passed.Goals as goal

pub returns : goal.returns
returns c =
    let ordered = subst IsOrdered (sym c.deref.ensures.value) c.args.self.now.ordered in
    let exact : to_z w64 (of_z w64 c.args.number) ≡ c.args.number = search rules in
    let point = IsPartitionPoint-from_clause (λ cut. int_le cut c.args.number) _ _ c.partition_point.ensures.partitioned (in-parts c.deref.result.now c.args.number ordered) (λ a r q k. search rules) in
    subst (λ cuts. ArePassed cuts c.args.number c.partition_point.result) c.deref.ensures.value (by-parts c.deref.result.now c.partition_point.result c.args.number c.partition_point.ensures.bound point)
