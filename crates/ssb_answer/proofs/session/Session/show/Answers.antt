use Rattle.std.proofs.Common.{◌≡◌, ◌∙◌, subst, sym}
use Rattle.std.specs.Prelude.{IsUtf8}
use Rattle.ssb_statements.specs.Telling.{IsTold}
use Rattle.ssb_answer.specs.Showing.{ShowsOver}
use Rattle.ssb_answer.specs.Steps.{sink_state}
use Rattle.ssb_answer.proofs.StatementFacts.{replied-no-text, replied-text, replied-too-long}
use Rattle.ssb_answer.proofs.session.Session.show.Goals as goal

pub returns-in-TooLong : goal.returns-in-TooLong
returns-in-TooLong g c = λ s told. replied-too-long c.args.self.now.database.now c.args.self.now.manner.shape s _ (subst (λ t. IsTold t c.args.text.now s) c.in-TooLong.is told)

pub returns-in-Ok : goal.returns-in-Ok
returns-in-Ok g c = λ s told.
    let d = c.args.self.now.database.now in
    let shape = c.args.self.now.manner.shape in
    let text = subst (λ t. IsTold t c.args.text.now s) c.in-Text.is told in
    let read = c.in-Ok.ensures.cases in
    let same : c.in-Ok.text.now ≡ s = read.0 ∙ text.0 in
    let old = sink_state g.W.Sink c.args.rows.now in
    let new = sink_state g.W.Sink c.show.new.out in
    let over = subst (λ t. ShowsOver d.catalog d.tables shape t c.show.result old.taken new.taken old.failures new.failures) same c.show.ensures.shows in
    replied-text d shape s c.show.result old new (subst IsUtf8 text.0 read.1) over

pub returns-in-Err : goal.returns-in-Err
returns-in-Err g c = λ s told.
    let text = subst (λ t. IsTold t c.args.text.now s) c.in-Text.is told in
    replied-no-text c.args.self.now.database.now c.args.self.now.manner.shape s _ text.1 (λ is. c.in-Err.ensures.cases.0 (subst IsUtf8 (sym text.0) is))
