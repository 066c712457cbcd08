use Rattle.std.proofs.Common.{subst, sym, ◌∙◌}
use Rattle.std.proofs.lemmas.Result.{err_from_is_err_and}
use Rattle.ssb_bind.proofs.Meaning.{aggregates_are, of_draft, parts_pass}
use Rattle.ssb_bind.specs.Faults.{Says}
use Rattle.ssb_bind.proofs.bind_to_catalog.bound.Goals as goal

pub check_query-requires : goal.check_query-requires
check_query-requires c = aggregates_are c.args.tables c.args.from c.args.resolved.now c.args.select.now c.in_ok-query.query c.in_ok-query.ensures.0

pub returns-in_err-check_query : goal.returns-in_err-check_query
returns-in_err-check_query c =
    let out = err_from_is_err_and c.from_residual-in_err-check_query.result c.from_residual-in_err-check_query.ensures.1 in
    let bound = c.in_ok-query.ensures in
    let passes = parts_pass c.args.tables c.args.from c.args.resolved.now c.args.select.now c.in_ok-query.query bound.0 bound.1 in
    let drafted = of_draft c.args.tables c.args.from c.args.resolved.now c.args.select.now c.in_ok-query.query bound.0 in
    rw (out.1, out.2) (subst (λ applies. Says applies c.in_err-check_query.field-0.0) (sym passes ∙ drafted) c.in_err-check_query.ensures)

pub returns : goal.returns
returns c =
    let bound = c.in_ok-query.ensures in
    (bound.0, parts_pass c.args.tables c.args.from c.args.resolved.now c.args.select.now c.in_ok-query.query bound.0 bound.1 ∙ c.in_ok-check_query.ensures)
