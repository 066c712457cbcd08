use Rattle.std.proofs.Common.{◌∙◌, ◌<◌, arith, length, subst, sym}
use Rattle.std.proofs.lemmas.Bool.{false≢true}
use Rattle.std.proofs.lemmas.Result.{err_from_is_err_and}
use Rattle.ssb_statements.specs.Reader.{ScriptReader}
use Rattle.ssb_statements.proofs.Giving.{comes-command, comes-fault, comes-statements, waits}
use Rattle.ssb_statements.proofs.script.Script.next.Goals as goal

pub returns-then-not-is_at_command : goal.returns-then-not-is_at_command
returns-then-not-is_at_command g c =
    let s = c.self.inside in
    let some = waits s.at s.end s.piece.items (omega (arith, c.self.invariant.inside, c.if-self.false)) (omega (arith, c.self.invariant.held, s.piece.ok.0)) in
    comes-statements g.S.Source c.args.self.now c.refill.new.self c.in_ok-refill.ensures (subst (λ (r : ScriptReader g.row.S.Denot). 0 < length r.waiting) c.self.view_is some) (λ h. absurd (false≢true (sym c.if-not-is_at_command.true ∙ c.is_at_command.ensures.1 h)))

pub returns-in_err-take_line : goal.returns-in_err-take_line
returns-in_err-take_line g c =
    let out = err_from_is_err_and c.from_residual-in_err-take_line.result c.from_residual-in_err-take_line.ensures.1 in
    rw out.1 (comes-fault g.S.Source c.args.self.now c.refill.new.self c.take_line.new.self _ c.in_ok-refill.ensures (c.is_at_command.ensures.0 c.if-not-is_at_command.false) c.in_err-take_line.ensures)

pub returns : goal.returns
returns g c = comes-command g.S.Source c.args.self.now c.refill.new.self c.take_line.new.self c.in_ok-refill.ensures (c.is_at_command.ensures.0 c.if-not-is_at_command.false) c.in_ok-take_line.ensures
