use Rattle.std.proofs.Common.{nat_eq, subst}
use Rattle.std.specs.List.{IsDistinct}
use Rattle.ssb_keys.proofs.SetFacts.{distinct-by-places}
use Rattle.ssb_keys.proofs.dense.DenseKeys.distinct.Goals as goal

pub returns : goal.returns
returns c = subst (IsDistinct nat_eq) c.self.view_is (distinct-by-places c.self.inside.places.items c.self.inside.numbers.items c.self.invariant)
