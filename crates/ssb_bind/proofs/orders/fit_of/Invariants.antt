use Rattle.std.proofs.Common.{◌≡◌, fold, drop}
use Rattle.ssb_bind.specs.Columns.{and_one}
use Rattle.ssb_bind.specs.Columns.{fit_of}
use Rattle.ssb_bind.specs.Orders.{places_from, places_for}
use Rattle.ssb_bind.proofs.orders.fit_of.Given as goal

abbrev pub invariant-loop-place : goal.invariant-loop-place
invariant-loop-place l = fold and_one l.found (places_from l.key l.place (drop l.place l.items)) ≡ fit_of (places_for l.items l.key)
