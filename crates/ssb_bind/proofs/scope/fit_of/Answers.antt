use Rattle.ssb_bind.specs.Columns.{columns_for}
use Rattle.ssb_bind.proofs.Counting.{fit_of-fold}
use Rattle.ssb_bind.proofs.scope.fit_of.Goals as goal

pub loop-place-init : goal.loop-place-init
unfolding columns_for
loop-place-init c = fit_of-fold _
