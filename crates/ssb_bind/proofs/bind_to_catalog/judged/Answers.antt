use Rattle.std.proofs.Common.{ap, subst, sym, ◌∙◌}
use Rattle.std.proofs.lemmas.Result.{err_from_is_err_and}
use Rattle.ssb_bind.proofs.Meaning.{answers_of, is_bindable, name_fails_of, table_fails}
use Rattle.ssb_bind.specs.Columns.{table_numbers}
use Rattle.ssb_bind.specs.Faults.{Says, unknown_table, with}
use Rattle.ssb_bind.specs.declared.fault.BindFault.TheVariants as fault
use Rattle.ssb_bind.proofs.bind_to_catalog.judged.Goals as goal

pub returns-in_err-from : goal.returns-in_err-from
returns-in_err-from c =
    let out = err_from_is_err_and c.from_residual.result c.from_residual.ensures.1 in
    let f = c.in_err-from.field-0.0 in
    rw (out.1, out.2) (table_fails c.args.catalog.now c.args.select.now f (subst (λ names. Says (with fault.UnknownTable (unknown_table c.args.catalog.now names)) f) c.as_slice.ensures c.in_err-from.ensures.unknown))

pub bound-requires-clause-bindable : goal.bound-requires-clause-bindable
bound-requires-clause-bindable c = (is_bindable c.as_slice-3.result.now c.as_slice-4.result.now c.in_ok-resolved.resolved c.args.select.now c.in_ok-check_select.ensures).1

pub returns-in_err-check_select : goal.returns-in_err-check_select
returns-in_err-check_select c =
    let out = err_from_is_err_and c.from_residual-in_err-check_select.result c.from_residual-in_err-check_select.ensures.1 in
    let numbers = c.in_ok-from.ensures.numbers ∙ ap (table_numbers c.args.catalog.now) c.as_slice.ensures in
    let known = sym (ap (unknown_table c.args.catalog.now) c.as_slice.ensures) ∙ c.in_ok-from.ensures.known in
    rw (out.1, out.2)
    (name_fails_of c.args.catalog.now c.args.select.now c.in_ok-tables.tables c.as_slice-3.result.now c.in_ok-from.from c.as_slice-4.result.now c.as_slice-2.result.now c.in_ok-resolved.resolved c.in_ok-tables.ensures
    c.as_slice-3.ensures numbers c.as_slice-4.ensures c.as_slice-2.ensures c.in_ok-resolved.ensures known c.in_err-check_select.field-0.0 c.in_err-check_select.ensures)

pub returns : goal.returns
returns c =
    let numbers = c.in_ok-from.ensures.numbers ∙ ap (table_numbers c.args.catalog.now) c.as_slice.ensures in
    let known = sym (ap (unknown_table c.args.catalog.now) c.as_slice.ensures) ∙ c.in_ok-from.ensures.known in
    answers_of c.args.catalog.now c.args.select.now c.in_ok-tables.tables c.as_slice-3.result.now c.in_ok-from.from c.as_slice-4.result.now c.as_slice-2.result.now c.in_ok-resolved.resolved c.in_ok-tables.ensures
    c.as_slice-3.ensures numbers c.as_slice-4.ensures c.as_slice-2.ensures c.in_ok-resolved.ensures known c.bound.result c.in_ok-check_select.ensures c.bound.ensures
