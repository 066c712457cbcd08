use Rattle.std.proofs.Common.{◌∙◌, Err, ap, subst}
use Rattle.std.proofs.lemmas.Result.{err_from_is_err_and}
use Rattle.ssb_plan.specs.JobShape.{JobShape}
use Rattle.ssb_answer.specs.Asking.{Asked}
use Rattle.ssb_answer.specs.Database.{Loaded}
use Rattle.ssb_answer.proofs.Asking.{fits}
use Rattle.ssb_answer.proofs.database.Database.job.Goals as goal

pub returns-in_err-query-clause-fault : goal.returns-in_err-query-clause-fault
returns-in_err-query-clause-fault c =
    let out = err_from_is_err_and c.from_residual.result c.from_residual.ensures.1 in
    rw (out.1, out.2) (subst (λ (d : Loaded). Asked d.catalog c.args.text.now (Err c.in_err-query.field-0.0)) c.self.view_is c.in_err-query.ensures)

pub shared_job-requires : goal.shared_job-requires
shared_job-requires c = fits c.self.inside.catalog.now c.args.text.now _ c.in_ok-query.query c.self.invariant.0 c.self.invariant.1 c.in_ok-query.ensures

pub returns-in-Ok-clause-asks : goal.returns-in-Ok-clause-asks
returns-in-Ok-clause-asks c = rw (c.in-Ok.ensures, ← c.self.view_is) c.in_ok-query.ensures

pub returns-in-Ok-clause-tables : goal.returns-in-Ok-clause-tables
returns-in-Ok-clause-tables c = ap (λ (j : JobShape). j.tables) c.in-Ok.ensures ∙ ap (λ (d : Loaded). d.tables) c.self.view_is
