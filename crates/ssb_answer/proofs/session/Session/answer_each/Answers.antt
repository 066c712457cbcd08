use Rattle.std.proofs.Common.{◌∙◌, ap, arith, sym}
use Rattle.ssb_answer.specs.Session.{first_of}
use Rattle.ssb_answer.specs.Steps.{session_state, sink_state}
use Rattle.ssb_answer.proofs.SessionFacts.{session-ends, session-spent, so-far-more, so-far-nothing}
use Rattle.ssb_answer.proofs.session.Session.answer_each.Goals as goal

pub loop-step-init : goal.loop-step-init
loop-step-init g c = so-far-nothing g.S.Source c.args.self.now.database.now c.args.self.now.manner (session_state c.args.statements.now (sink_state g.W.Sink c.args.rows.now) (sink_state g.L.Sink c.args.lines.now))

pub returns-in-Some : goal.returns-in-Some
returns-in-Some g c =
    let d = c.args.self.now.database.now in
    let m = c.args.self.now.manner in
    let rows = sink_state g.W.Sink in
    let lines = sink_state g.L.Sink in
    let now = c.loop-step in
    let new = c.step-step.new in
    let old = session_state c.args.statements.now (rows c.args.rows.now) (lines c.args.lines.now) in
    let here = session_state now.statements (rows now.rows) (lines now.lines) in
    let next = session_state new.statements (rows new.rows) (lines new.lines) in
    let is = sym c.end-end.ensures ∙ c.in-Some.is in
    let first = c.first_of-first.ensures ∙ ap (first_of now.first) c.into_fault.ensures in
    rw first (session-ends g.S.Source d m now._step old here next now.first c.step-step.result c.in-Some.end now.invariant c.step-step.ensures is)

pub loop-step-preserved : goal.loop-step-preserved
loop-step-preserved g c =
    let d = c.args.self.now.database.now in
    let m = c.args.self.now.manner in
    let rows = sink_state g.W.Sink in
    let lines = sink_state g.L.Sink in
    let now = c.loop-step in
    let new = c.step-step.new in
    let old = session_state c.args.statements.now (rows c.args.rows.now) (lines c.args.lines.now) in
    let here = session_state now.statements (rows now.rows) (lines now.lines) in
    let next = session_state new.statements (rows new.rows) (lines new.lines) in
    let is = sym c.end-end.ensures ∙ c.in_default.is in
    let first = c.first_of-first.ensures ∙ ap (first_of now.first) c.into_fault.ensures in
    rw first (so-far-more g.S.Source d m now._step _ old here next now.first c.step-step.result (omega arith) now.invariant c.step-step.ensures is)

pub returns : goal.returns
returns g c =
    let d = c.args.self.now.database.now in
    let m = c.args.self.now.manner in
    let rows = sink_state g.W.Sink in
    let lines = sink_state g.L.Sink in
    let now = c.loop-step in
    let old = session_state c.args.statements.now (rows c.args.rows.now) (lines c.args.lines.now) in
    let here = session_state now.statements (rows now.rows) (lines now.lines) in
    session-spent g.S.Source d m now._step old here now.first (let over = c.loop-step-test.false in omega (arith, over)) now.invariant
