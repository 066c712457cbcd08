use Rattle.std.proofs.lemmas.Result.{err_from_is_err_and}
use Rattle.ssb_statements.proofs.Looking.{gave-broken, gave-found, gave-last, looks-more}
use Rattle.ssb_statements.proofs.statements.Statements.next.Goals as goal

pub returns-in-Some : goal.returns-in-Some
returns-in-Some g c = gave-found _ c.loop.self-inside.input c.loop.self-inside.buffer c.find.new.self _ _ c.loop.invariant c.in-Some.ensures

pub returns-in_err-fill : goal.returns-in_err-fill
returns-in_err-fill g c =
    let out = err_from_is_err_and c.from_residual.result c.from_residual.ensures.1 in
    rw out.1 (gave-broken _ c.loop.self-inside.input c.fill.new.input c.loop.self-inside.buffer c.find.new.self c.fill.new.self _ _ c.loop.invariant c.in_default.ensures c.in_err-fill.ensures)

pub returns-then-not-branch : goal.returns-then-not-branch
returns-then-not-branch g c =
    gave-last _ c.loop.self-inside.input c.fill.new.input c.loop.self-inside.buffer c.find.new.self c.fill.new.self c.close.new.self _ _ _ c.if-not-branch.true c.loop.invariant c.in_default.ensures c.in_ok-fill.ensures c.close.ensures

pub loop-preserved : goal.loop-preserved
loop-preserved g c = looks-more _ c.loop.self-inside.input c.fill.new.input c.loop.self-inside.buffer c.find.new.self c.fill.new.self _ _ c.if-not-branch.false c.loop.invariant c.in_default.ensures c.in_ok-fill.ensures
