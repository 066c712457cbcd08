use Rattle.std.proofs.Common.{◌∙◌, ◌++◌, ◌<◌, take, ap, arith}
use Rattle.std.proofs.lemmas.List.{append-nil}
use Rattle.std.proofs.lemmas.Grind.{common_steps}
use Rattle.ssb_rows.proofs.Written.{grew-more, written-slice, written-some}
use Rattle.ssb_rows.proofs.sink.write_all.Goals as goal

pub returns-then-count-eq0-clause-began : goal.returns-then-count-eq0-clause-began
returns-then-count-eq0-clause-began g c =
    written-some _ _ _ c.loop-rest.invariant.0 _ _ _ _ c.loop-rest.invariant.1
    (c.in-Ok.ensures.taken ∙ ap (λ n. g.W.Sink.taken c.loop-rest.out ++ take n c.loop-rest.rest.now) c.if-count-eq0.true ∙ append-nil (g.W.Sink.taken c.loop-rest.out))

pub returns-in_default-clause-began : goal.returns-in_default-clause-began
returns-in_default-clause-began g c =
    written-some _ _ _ c.loop-rest.invariant.0 _ _ _ _ c.loop-rest.invariant.1 (c.in_default.ensures.taken ∙ append-nil (g.W.Sink.taken c.loop-rest.out))

pub loop-rest-preserved : goal.loop-rest-preserved
loop-rest-preserved g c =
    let inv = c.loop-rest.invariant in
    let grew = grew-more _ _ _ _ _ _ _ inv.2 c.in-Ok.ensures.taken c.in-Ok.ensures.contents in
    let positive : 0 < c.in-Ok.count = omega (arith, c.if-count-eq0.false) in
    (_, written-slice _ _ _ _ _ _ _ _ _ _ _ positive inv.1 c.in-Ok.ensures.taken c.in-Ok.ensures.failures (grind (arith, common_steps)), grew)
