use Rattle.std.proofs.Common.{◌≡◌, drop}
use Rattle.ssb_rows.specs.Order.{row_cmp}
use Rattle.ssb_rows.proofs.order.compare_rows.Given as goal

abbrev pub invariant-loop-key : goal.invariant-loop-key
invariant-loop-key l = row_cmp (drop l.key-index l.by) l.a l.b ≡ row_cmp l.by l.a l.b
