use Rattle.std.proofs.Common.{◌∙◌, sym, arith}
use Rattle.ssb_records.proofs.Handing.{front-none, hands, passed-out}
use Rattle.ssb_records.proofs.pieces.Pieces.fill.Goals as goal

pub returns-clause-hands : goal.returns-clause-hands
returns-clause-hands g c =
    hands c.look.new.self c.hand_out.new.self c.in_ok-end.end c.in_ok-end.ensures.place
    (record { piece = c.hand_out.ensures.piece; rest = c.hand_out.ensures.rest; stopped = c.hand_out.ensures.stopped; failed = c.hand_out.ensures.failed; long = omega (arith, c.look.new.self.held, c.look.new.self.buffer.ok.0) })

pub returns-clause-over : goal.returns-clause-over
returns-clause-over g c over =
    let waits = c.in_ok-end.ensures.over (c.shift.ensures.stopped ∙ over.stopped) ∙ c.shift.ensures.rest ∙ over.rest in
    front-none _ _ (sym waits ∙ c.hand_out.ensures.split)

pub returns-clause-follows : goal.returns-clause-follows
returns-clause-follows g c = passed-out _ _ _ _ _ _ c.look.ensures.follows c.hand_out.ensures.handed c.hand_out.ensures.split c.hand_out.ensures.stopped c.hand_out.ensures.failed c.hand_out.ensures.begun
