use Rattle.ssb_answer.specs.Steps.{session_state, sink_state}
use Rattle.ssb_answer.proofs.SessionFacts.{SoFar}
use Rattle.ssb_answer.proofs.session.Session.answer_each.Given as goal

abbrev pub invariant-loop-step : goal.invariant-loop-step
invariant-loop-step g l =
    let rows = sink_state g.W.Sink in
    let lines = sink_state g.L.Sink in
    SoFar g.S.Source l.fn.self.database.now l.fn.self.manner l._step (session_state l.fn.statements (rows l.fn.rows) (lines l.fn.lines)) (session_state l.statements (rows l.rows) (lines l.lines)) l.first
