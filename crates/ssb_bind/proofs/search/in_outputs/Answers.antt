use Rattle.std.proofs.Common.{sym}
use Rattle.ssb_trees.proofs.Finding.{part_has, part_lacks}
use Rattle.ssb_bind.proofs.search.in_outputs.Goals as goal

pub returns-in-Some : goal.returns-in-Some
returns-in-Some g c =
    part_has (g.S.Search.wanted c.args.search.now) g.S.Search.names c.args.outputs.now c.loop-output.output-index c.output-item.result c.in-Some.name.now _ c.loop-output-test.true c.output-item.is (sym c.in-Some.ensures) c.loop-output.invariant

pub loop-output-preserved : goal.loop-output-preserved
loop-output-preserved g c =
    part_lacks (g.S.Search.wanted c.args.search.now) g.S.Search.names c.args.outputs.now c.loop-output.output-index c.output-item.result _ c.loop-output-test.true c.output-item.is (sym c.in_default.ensures) c.loop-output.invariant
