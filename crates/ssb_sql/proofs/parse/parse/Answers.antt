use Rattle.std.proofs.lemmas.Result.{err_from_is_err_and}
use Rattle.ssb_sql.proofs.SelectSound.{query_sound}
use Rattle.ssb_sql.proofs.SelectComplete.{reads_none}
use Rattle.ssb_sql.proofs.parse.parse.Goals as goal

pub returns-in_err-query : goal.returns-in_err-query
returns-in_err-query c =
    let q = err_from_is_err_and c.from_residual.result c.from_residual.ensures.1 in
    rw (q.1, q.2) (reads_none c.args.tokens.now c.in_err-query.field-0.0 (c.is_within.ensures.0 c.if-not-is_within.false) c.in_err-query.ensures)

pub returns : goal.returns
returns c = (c.is_within.ensures.0 c.if-not-is_within.false, query_sound 64 c.args.tokens.now c.in_ok-query.field-0 c.in_ok-query.ensures)
