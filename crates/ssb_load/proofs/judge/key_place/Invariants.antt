use Rattle.std.proofs.Common.{◌≡◌, drop}
use Rattle.ssb_terms.specs.Roles.{key_from}
use Rattle.ssb_load.proofs.judge.key_place.Given as goal

abbrev pub invariant-loop-k : goal.invariant-loop-k
invariant-loop-k l = key_from 0 l.rules ≡ key_from l.k (drop l.k l.rules)
