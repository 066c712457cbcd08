use Rattle.ssb_groups.proofs.Permuted.{any_order}
use Rattle.ssb_groups.proofs.groups.any_order.Goals as goal

pub returns : goal.returns
returns c = any_order
