use Rattle.std.proofs.Common.{◌≡◌, [], take, drop}
use Rattle.ssb_bind.specs.Faults.{repeated}
use Rattle.ssb_bind.proofs.judge.repeated.Given as goal

abbrev pub invariant-loop-at : goal.invariant-loop-at
invariant-loop-at l = repeated (take l.at l.from) (drop l.at l.from) ≡ repeated [] l.from
