use Rattle.std.proofs.Common.{◌≡◌, fold, drop}
use Rattle.ssb_bind.specs.Columns.{and_one}
use Rattle.ssb_bind.specs.Columns.{fitting_from, columns_for, fit_of}
use Rattle.ssb_bind.proofs.scope.fit_of.Given as goal

abbrev pub invariant-loop-place : goal.invariant-loop-place
invariant-loop-place l = fold and_one l.found (fitting_from l.catalog l.name l.place (drop l.place l.from)) ≡ fit_of (columns_for l.catalog l.from l.name)
