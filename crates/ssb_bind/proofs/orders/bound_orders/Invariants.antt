use Rattle.std.proofs.Common.{◌≡◌, ◌++◌, ◌+◌, drop, map}
use Rattle.ssb_bind.specs.Orders.{bad_from, bound_order}
use Rattle.ssb_bind.proofs.orders.bound_orders.Given as goal

abbrev pub invariant-loop-place : goal.invariant-loop-place
invariant-loop-place l = (l.all ++ map (bound_order l.items) (drop l.place l.orders) ≡ map (bound_order l.items) l.orders) × (bad_from l.items (l.place + 1) (drop l.place l.orders) ≡ bad_from l.items 1 l.orders)
