use Rattle.std.proofs.Common.{sym, subst}
use Rattle.ssb_statements.specs.Cutting.{IsTaken, Passes}
use Rattle.ssb_statements.proofs.position.take_byte.Goals as goal

pub returns-then-has_ended : goal.returns-then-has_ended
returns-then-has_ended c =
    let old = c.args.boundary.now in
    let mid = c.take-has_ended.new.self in
    let taken = subst (λ r. IsTaken r old c.args.byte mid) c.if-has_ended.true c.take-has_ended.ensures.cut in
    subst (λ r. Passes r old c.args.byte c.reset.new.self) (sym c.if-has_ended.true) (mid.so_far.items, taken.next, c.reset.ensures)
