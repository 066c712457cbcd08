use Rattle.std.proofs.Common.{Ok, Err, sym}
use Rattle.std.proofs.lemmas.Result.{err_from_is_err_and}
use Rattle.ssb_sql.specs.Steps.{after, chained_at}
use Rattle.ssb_sql.proofs.Loop.{first_fails, first_goes, goes_on, is_done, turn_fails, shorter_by}
use Rattle.ssb_sql.proofs.chain.chain.Goals as goal

pub returns-in_err-found : goal.returns-in_err-found
returns-in_err-found g c p s r =
    let q = err_from_is_err_and c.from_residual.result c.from_residual.ensures.1 in
    let e = c.in_err-found.field-0.0 in
    rw (q.1, q.2) (first_fails c.args.sign p e c.args.tokens.now (r c.args.tokens (Err e) c.in_err-found.ensures))

pub loop-start-init : goal.loop-start-init
loop-start-init g c =
    (c.requires.can, λ p s r. rw (c.in_ok-push.ensures.ok, c.new-all.ensures) (first_goes c.args.sign p c.args.tokens.now c.in_ok-found.end.now c.in_ok-found.found (r c.args.tokens (Ok (c.in_ok-found.found, c.in_ok-found.end)) c.in_ok-found.ensures)))

pub returns-in_err-found-2 : goal.returns-in_err-found-2
returns-in_err-found-2 g c p s r =
    let q = err_from_is_err_and c.from_residual-in_err-found-2.result c.from_residual-in_err-found-2.ensures.1 in
    let e = c.in_err-found-2.field-0.0 in
    let l = c.loop-start in
    rw (q.1, q.2) (turn_fails (after c.args.sign) p s e l.all l.rest.now c.in-Some.start.now (chained_at c.args.sign p c.args.tokens.now) (sym c.in-Some.ensures)
    (r c.in-Some.start (Err e) c.in_err-found-2.ensures) (l.invariant.1 p s r))

pub loop-start-smaller : goal.loop-start-smaller
loop-start-smaller g c =
    let q = c.requires.shrinks in
    let one = c.in_ok-found-2 in
    shorter_by (after c.args.sign) q.0 q.1 c.loop-start.rest.now one.end.now c.in-Some.start.now one.found (sym c.in-Some.ensures)
    (q.2 c.in-Some.start (Ok (one.found, one.end)) one.ensures)

pub loop-start-preserved : goal.loop-start-preserved
loop-start-preserved g c =
    let l = c.loop-start in
    let one = c.in_ok-found-2 in (
      l.invariant.0,
      λ p s r. rw c.in_ok-push-2.ensures.ok (goes_on (after c.args.sign) p s l.all l.rest.now one.end.now c.in-Some.start.now one.found
          (chained_at c.args.sign p c.args.tokens.now) (sym c.in-Some.ensures) (r c.in-Some.start (Ok (one.found, one.end)) one.ensures) (l.invariant.1 p s r)),
    )

pub returns : goal.returns
returns g c p s r =
    let l = c.loop-start in
    is_done (after c.args.sign) p s l.all l.rest.now (chained_at c.args.sign p c.args.tokens.now) (sym c.in_default.ensures) (l.invariant.1 p s r)
