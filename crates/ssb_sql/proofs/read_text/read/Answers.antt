use Rattle.std.proofs.Common.{subst}
use Rattle.std.proofs.lemmas.Result.{err_from_is_err_and}
use Rattle.ssb_sql.specs.Exact.{Reads}
use Rattle.ssb_sql.proofs.SpellsFacts.{read-none, read-tokens}
use Rattle.ssb_sql.proofs.read_text.read.Goals as goal

pub returns-in_err-tokens : goal.returns-in_err-tokens
returns-in_err-tokens c =
    let q = err_from_is_err_and c.from_residual.result c.from_residual.ensures.1 in
    rw (q.1, q.2) (read-none c.args.text.now c.in_err-tokens.field-0.0 c.if-text-gt-MAX_BYTES.false c.in_err-tokens.ensures)

pub returns : goal.returns
returns c =
    read-tokens c.args.text.now c.in_ok-tokens.tokens c.parse.result c.if-text-gt-MAX_BYTES.false c.in_ok-tokens.ensures (subst (λ ts. Reads ts c.parse.result) c.as_slice.ensures c.parse.ensures)
