use Rattle.std.proofs.Common.{◌≡◌, fold, drop}
use Rattle.ssb_bind.specs.Columns.{and_one}
use Rattle.ssb_bind.specs.Columns.{fitting}
use Rattle.ssb_bind.proofs.scope.and_fitting.Given as goal

abbrev pub invariant-loop-at : goal.invariant-loop-at
invariant-loop-at l = fold and_one l.fit (fitting l.name l.table l.at (drop l.at l.all)) ≡ fold and_one l.fn.found (fitting l.name l.table 0 l.all)
