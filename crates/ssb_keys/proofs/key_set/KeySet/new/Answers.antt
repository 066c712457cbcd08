use Rattle.std.proofs.Common.{nat_eq, subst, sym}
use Rattle.std.specs.List.{IsDistinct}
use Rattle.ssb_keys.proofs.SetFacts.{distinct-none}
use Rattle.ssb_keys.proofs.key_set.KeySet.new.Goals as goal

pub returns-then-are_small-clause-distinct : goal.returns-then-are_small-clause-distinct
returns-then-are_small-clause-distinct c = subst (IsDistinct nat_eq) (sym c.new.ensures) distinct-none
