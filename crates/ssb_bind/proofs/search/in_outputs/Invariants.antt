use Rattle.std.proofs.Common.{◌≡◌, find, drop, map}
use Rattle.ssb_trees.specs.Lists.{concat}
use Rattle.ssb_bind.proofs.search.in_outputs.Given as goal

abbrev pub invariant-loop-output : goal.invariant-loop-output
invariant-loop-output g l =
    let p = g.S.Search.wanted l.search in
    find p (concat (map g.S.Search.names (drop l.output-index l.outputs))) ≡ find p (concat (map g.S.Search.names l.outputs))
