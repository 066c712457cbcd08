use Rattle.std.proofs.Common.{◌∙◌, false, sym}
use Rattle.ssb_statements.proofs.Steps.{goes-by, has-end, no-end, none-begun, some-within}
use Rattle.ssb_statements.proofs.boundary.Boundary.take_end.Goals as goal

pub returns-then-not-self-clause-cut : goal.returns-then-not-self-clause-cut
returns-then-not-self-clause-cut c =
    let s = c.args.self.now in
    goes-by _ s 59 s false c.going_on.ensures (no-end _ _ c.requires (none-begun s.has_begun s.so_far.items s.begun c.if-not-self.true))

pub returns-clause-cut : goal.returns-clause-cut
returns-clause-cut c =
    let s = c.args.self.now in
    let w = some-within s.has_begun 59 s.so_far.items s.begun c.if-not-self.false in
    record { next = has-end _ _ _ c.requires (w ∙ sym c.put.ensures.so_far) c.put.ensures.so_far }
