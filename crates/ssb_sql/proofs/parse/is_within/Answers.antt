use Rattle.std.proofs.Common.{sym}
use Rattle.ssb_sql.proofs.Depth.{left_goes, left_ends}
use Rattle.ssb_sql.proofs.parse.is_within.Goals as goal

pub returns-in_default : goal.returns-in_default
returns-in_default c =
    let l = c.loop-token in
    let t = c.token-item in
    (λ h. absurd cc, λ w. absurd (left_ends c.args.most c.args.tokens.now l.room l.token-index t.result t.result l.invariant c.loop-token-test.true t.is (sym c.in_default.ensures) w))

pub loop-token-preserved : goal.loop-token-preserved
loop-token-preserved c =
    let l = c.loop-token in
    let t = c.token-item in
    left_goes c.args.most c.args.tokens.now l.room l.token-index c.in-Some.left t.result t.result l.invariant c.loop-token-test.true t.is (sym c.in-Some.ensures)
