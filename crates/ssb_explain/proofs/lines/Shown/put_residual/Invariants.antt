use Rattle.std.proofs.Common.{◌≡◌, ◌++◌, drop, map, string_bytes}
use Rattle.ssb_trees.specs.Lists.{concat}
use Rattle.ssb_explain.specs.Explained.{residual_line}
use Rattle.ssb_explain.proofs.lines.Shown.put_residual.Given as goal

abbrev pub invariant-loop-conjunct : goal.invariant-loop-conjunct
invariant-loop-conjunct l = string_bytes l.out ++ concat (map (residual_line l.self.catalog.now l.self.job.now) (drop l.conjunct-index l.conjuncts)) ≡ string_bytes l.initial.out ++ concat (map (residual_line l.self.catalog.now l.self.job.now) l.conjuncts)
