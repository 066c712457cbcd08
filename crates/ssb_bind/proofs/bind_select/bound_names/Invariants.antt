use Rattle.std.proofs.Common.{◌≡◌, ◌++◌, drop, map}
use Rattle.ssb_bind.specs.Bound.{the_column}
use Rattle.ssb_bind.proofs.bind_select.bound_names.Given as goal

abbrev pub invariant-loop-name : goal.invariant-loop-name
invariant-loop-name l = l.all ++ map the_column (drop l.name-index l.names) ≡ map the_column l.names
