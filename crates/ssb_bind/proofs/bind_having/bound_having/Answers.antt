use Rattle.ssb_bind.proofs.Having.{binds}
use Rattle.ssb_bind.proofs.bind_having.bound_having.Goals as goal

pub returns-in_ok-bound-in-Some : goal.returns-in_ok-bound-in-Some
returns-in_ok-bound-in-Some c = rw c.in-Some.is (binds _ c.mapped_in_order.new.operands c.in-Some.condition c.in_ok-bound-in-Some.bound c.in_ok-bound-in-Some.ensures)
