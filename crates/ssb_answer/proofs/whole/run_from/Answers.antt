use Rattle.std.proofs.Common.{subst}
use Rattle.std.proofs.lemmas.Result.{err_from_is_err_and}
use Rattle.ssb_answer.specs.Asking.{AnswersText}
use Rattle.ssb_answer.proofs.Running.{runs_replied, runs_unloaded, sink_unloaded}
use Rattle.ssb_answer.proofs.whole.run_from.Goals as goal

pub returns-in_err-database-clause-runs : goal.returns-in_err-database-clause-runs
returns-in_err-database-clause-runs g c =
    let out = err_from_is_err_and c.from_residual.result c.from_residual.ensures.1 in
    let e = c.in_err-database.ensures in
    rw out.1 (runs_unloaded _ _ _ _ c.args.catalog.now c.args.text.now c.args.sources.now _ c.in_err-database.field-0.0.table c.in_err-database.field-0.0.fault _ _ out.2 e.grows e.loads e.failed e.told)

pub returns-in_err-database-clause-sink : goal.returns-in_err-database-clause-sink
returns-in_err-database-clause-sink g c =
    let out = err_from_is_err_and c.from_residual.result c.from_residual.ensures.1 in
    rw out.1 (sink_unloaded c.in_err-database.field-0.0.table c.in_err-database.field-0.0.fault _ _ _ _ out.2)

pub returns-clause-runs : goal.returns-clause-runs
returns-clause-runs g c =
    let database = c.in_ok-database.database in
    let l = c.in_ok-database.ensures in
    let a = c.answer.ensures.replies in
    let answers = subst (λ k. AnswersText k database.tables c.args.text.now a.answered) l.loads.0 a.answers in
    runs_replied _ _ _ _ c.args.catalog.now c.args.text.now c.args.sources.now _ database.tables l.grows l.loads.1 l.ended (λ all same. (l.told all same).1) _ _ _ _ _ _ answers a.writes
