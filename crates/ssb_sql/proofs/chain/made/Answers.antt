use Rattle.std.proofs.Common.{sym, ◌∙◌}
use Rattle.std.proofs.lemmas.Result.{err_from_is_err_and}
use Rattle.ssb_sql.proofs.Chains.{made_one, made_many}
use Rattle.ssb_sql.proofs.Loop.{bind_fails}
use Rattle.ssb_sql.proofs.chain.made.Goals as goal

pub returns-in_err-all : goal.returns-in_err-all
returns-in_err-all g c m makes p s r =
    let q = err_from_is_err_and c.from_residual.result c.from_residual.ensures.1 in
    rw (q.1, q.2) (bind_fails c.in_err-all.field-0.0 _ _ (c.in_err-all.ensures p s r))

pub returns-then-len-eq1 : goal.returns-then-len-eq1
returns-then-len-eq1 g c m makes p s r = made_one m c.args.sign p c.args.tokens.now c.in_ok-all.rest.now _ c.remove.result (c.in_ok-all.ensures p s r) c.remove.ensures.item (sym c.len.ensures ∙ c.if-len-eq1.true)

pub returns : goal.returns
returns g c m makes p s r = made_many m c.args.sign p c.args.tokens.now c.in_ok-all.rest.now _ c.make.result (c.in_ok-all.ensures p s r) (λ alone. c.if-len-eq1.false (c.len.ensures ∙ alone)) (makes _ c.make.result c.make.ensures)
