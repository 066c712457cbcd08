use Rattle.ssb_rows.proofs.Orders.{one-order}
use Rattle.ssb_rows.proofs.order.one_order.Goals as goal

pub returns : goal.returns
returns c = one-order
