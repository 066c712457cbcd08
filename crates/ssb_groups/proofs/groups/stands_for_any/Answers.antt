use Rattle.ssb_groups.proofs.AnyRows.{stands_for_any}
use Rattle.ssb_groups.proofs.groups.stands_for_any.Goals as goal

pub returns : goal.returns
returns c = stands_for_any
