use Rattle.std.proofs.Common.{◌≡◌, ◌∙◌, Err, Ok, Option, refl, subst, sym, true, false}
use Rattle.ssb_answer.specs.SessionStep.{ShowsStatement, is_unwritten}
use Rattle.ssb_answer.specs.Steps.{session_state, sink_state}
use Rattle.ssb_answer.specs.Steps.DoesStep.{ended, unread}
use Rattle.ssb_reply.specs.declared.run_fault.RunFault.{RunFault}
use Rattle.ssb_statements.specs.Telling.{Gave, IsTold}
use Rattle.ssb_statements.specs.declared.cutter.Statement.{Statement}
use Rattle.ssb_answer.proofs.StatementFacts.{does-answer, does-not-write, does-tell, is-no-write, is-write}
use Rattle.ssb_answer.proofs.session.Session.step.Goals as goal

pub returns-in-Ok-None : goal.returns-in-Ok-None
returns-in-Ok-None g c = ended (subst (λ (o : Option Statement). Gave g.S.Source c.args.statements.now (Ok o) c.next.new.self) c.in-Ok-None.field-0-is c.in-Ok-None.ensures) (record { rows = refl; lines = refl })

pub returns-in-Err : goal.returns-in-Err
returns-in-Err g c = unread c.in-Err.ensures (record { rows = refl; lines = refl })

pub returns-in_default : goal.returns-in_default
returns-in_default g c =
    let d = c.args.self.now.database.now in
    let shape = c.args.self.now.manner.shape in
    let t = c.in-Ok-Some.statement in
    let gave = subst (λ (o : Option Statement). Gave g.S.Source c.args.statements.now (Ok o) c.next.new.self) c.in-Ok-Some.field-0-is c.in-Ok-Some.ensures in
    let told = subst (λ x. IsTold t x gave.answer.statement) (sym c.text.ensures) gave.answer.told in
    let old = session_state c.args.statements.now (sink_state g.W.Sink c.args.rows.now) (sink_state g.L.Sink c.args.lines.now) in
    let new = session_state c.next.new.self (sink_state g.W.Sink c.show.new.rows) (sink_state g.L.Sink c.args.lines.now) in
    does-answer g.S.Source d shape old new t gave (c.in_default.ensures gave.answer.statement told) refl

pub returns-then-is_unwritten : goal.returns-then-is_unwritten
returns-then-is_unwritten g c =
    let d = c.args.self.now.database.now in
    let shape = c.args.self.now.manner.shape in
    let t = c.in-Ok-Some.statement in
    let gave = subst (λ (o : Option Statement). Gave g.S.Source c.args.statements.now (Ok o) c.next.new.self) c.in-Ok-Some.field-0-is c.in-Ok-Some.ensures in
    let told = subst (λ x. IsTold t x gave.answer.statement) (sym c.text.ensures) gave.answer.told in
    let old = session_state c.args.statements.now (sink_state g.W.Sink c.args.rows.now) (sink_state g.L.Sink c.args.lines.now) in
    let new = session_state c.next.new.self (sink_state g.W.Sink c.show.new.rows) (sink_state g.L.Sink c.args.lines.now) in
    let write : is_unwritten c.in-Err-show.fault ≡ true = sym c.is_unwritten.ensures ∙ c.if-is_unwritten.true in
    let replied = subst (λ (f : RunFault). ShowsStatement d shape gave.answer.statement (Err f) old.rows new.rows) (is-write c.in-Err-show.fault write) (c.in-Err-show.ensures gave.answer.statement told) in
    does-not-write g.S.Source d shape old new t gave _ replied refl

pub returns : goal.returns
returns g c =
    let d = c.args.self.now.database.now in
    let shape = c.args.self.now.manner.shape in
    let t = c.in-Ok-Some.statement in
    let gave = subst (λ (o : Option Statement). Gave g.S.Source c.args.statements.now (Ok o) c.next.new.self) c.in-Ok-Some.field-0-is c.in-Ok-Some.ensures in
    let told = subst (λ x. IsTold t x gave.answer.statement) (sym c.text.ensures) gave.answer.told in
    let old = session_state c.args.statements.now (sink_state g.W.Sink c.args.rows.now) (sink_state g.L.Sink c.args.lines.now) in
    let new = session_state c.next.new.self (sink_state g.W.Sink c.show.new.rows) (sink_state g.L.Sink c.tell-fault.new.lines) in
    let other : is_unwritten c.in-Err-show.fault ≡ false = sym c.is_unwritten.ensures ∙ c.if-is_unwritten.false in
    let line = c.tell-fault in
    does-tell g.S.Source d shape old new t gave c.in-Err-show.fault line.result.0 line.result.1 (is-no-write c.in-Err-show.fault other) (c.in-Err-show.ensures gave.answer.statement told) line.ensures.fault line.ensures.told
