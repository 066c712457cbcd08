use Rattle.std.proofs.Common.{◌≡◌}
use Rattle.ssb_load.proofs.loader.built.Given as goal

abbrev pub invariant-loop-builder : goal.invariant-loop-builder
invariant-loop-builder l = l.columns.items ≡ l.yielded
