use Rattle.ssb_bind.specs.Orders.{places_for}
use Rattle.ssb_bind.proofs.Counting.{fit_of-fold}
use Rattle.ssb_bind.proofs.orders.fit_of.Goals as goal

pub loop-place-init : goal.loop-place-init
unfolding places_for
loop-place-init c = fit_of-fold _
