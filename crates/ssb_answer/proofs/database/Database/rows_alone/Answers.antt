use Rattle.std.proofs.lemmas.Result.{err_from_is_err_and}
use Rattle.std.specs.Arc.{arc_value}
use Rattle.ssb_answer.proofs.Asking.{answered, refused, unasked}
use Rattle.ssb_answer.proofs.database.Database.rows_alone.Goals as goal

pub returns-in_err-job : goal.returns-in_err-job
returns-in_err-job c =
    let out = err_from_is_err_and c.from_residual.result c.from_residual.ensures.1 in
    rw (out.1, out.2) (unasked c.args.self.now.catalog c.args.text.now c.args.self.now.tables c.in_err-job.field-0.0 c.in_err-job.ensures.fault)

pub returns-in_err-answer : goal.returns-in_err-answer
returns-in_err-answer c =
    let out = err_from_is_err_and c.from_residual-in_err-answer.result c.from_residual-in_err-answer.ensures.1 in
    rw out.1 (refused c.args.self.now.catalog c.args.text.now c.args.self.now.tables (arc_value c.in_ok-job.job) c.in_err-answer.field-0.0 _ c.in_ok-job.ensures.asks c.in_ok-job.ensures.tables c.in_err-answer.ensures out.2)

pub returns : goal.returns
returns c = answered c.args.self.now.catalog c.args.text.now c.args.self.now.tables (arc_value c.in_ok-job.job) _ c.in_ok-job.ensures.asks c.in_ok-job.ensures.tables c.in_ok-answer.ensures
