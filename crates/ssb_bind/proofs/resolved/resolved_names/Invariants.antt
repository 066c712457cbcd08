use Rattle.std.proofs.Common.{◌≡◌, ◌++◌, drop, map}
use Rattle.ssb_bind.specs.Resolved.{resolved}
use Rattle.ssb_bind.proofs.resolved.resolved_names.Given as goal

abbrev pub invariant-loop-name : goal.invariant-loop-name
invariant-loop-name l = let f = resolved l.scope.catalog.now l.scope.from.now in l.all ++ map f (drop l.name-index l.names) ≡ map f l.names
