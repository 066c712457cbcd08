use Rattle.std.proofs.lemmas.Result.{err_from_is_err_and}
use Rattle.ssb_tokens.proofs.TokenLists.{split_begins, split_cuts, split_goes, split_fails, split_ends, turn_shorter, nil_is, not_nil}
use Rattle.ssb_tokens.proofs.lexer.lex.Goals as goal

pub loop-rest-init : goal.loop-rest-init
loop-rest-init c = rw (c.skip-rest.ensures, c.as_bytes.ensures.value, c.new-tokens.ensures) (split_begins c.args.text.now)

pub returns-in_err-found : goal.returns-in_err-found
returns-in_err-found c =
    let q = err_from_is_err_and c.from_residual.result c.from_residual.ensures.1 in
    rw (q.1, q.2) (split_fails c.in_err-found.field-0.0 c.args.text.now c.loop-rest.rest.now c.loop-rest.tokens (not_nil c.loop-rest.rest.now c.loop-rest-test.ensures) c.in_err-found.ensures c.loop-rest.invariant)

pub loop-rest-smaller : goal.loop-rest-smaller
loop-rest-smaller c = rw c.skip-rest-in-loop-rest.ensures (turn_shorter c.args.text.now c.loop-rest.rest.now c.in_ok-found.after.now c.loop-rest.tokens c.in_ok-found.found c.in_ok-found.ensures c.loop-rest.invariant)

pub loop-rest-preserved : goal.loop-rest-preserved
loop-rest-preserved c = rw (c.skip-rest-in-loop-rest.ensures, c.in_ok-push.ensures.ok) (split_goes c.args.text.now c.loop-rest.rest.now c.in_ok-found.after.now c.loop-rest.tokens c.in_ok-found.found c.in_ok-found.ensures c.loop-rest.invariant)

pub returns : goal.returns
returns c = split_ends c.args.text.now c.loop-rest.rest.now c.loop-rest.tokens (nil_is c.loop-rest.rest.now c.loop-rest-test.ensures) c.loop-rest.invariant

pub token-requires : goal.token-requires
token-requires c = split_cuts c.args.text.now c.loop-rest.rest.now c.loop-rest.tokens c.utf8.text c.loop-rest.invariant
