use Rattle.std.proofs.Common.{◌≡◌, ◌++◌, drop, map, string_bytes}
use Rattle.ssb_trees.specs.Lists.{concat}
use Rattle.ssb_explain.specs.Explained.{other_line}
use Rattle.ssb_explain.proofs.lines.Shown.put_others.Given as goal

abbrev pub invariant-loop-other : goal.invariant-loop-other
invariant-loop-other l = string_bytes l.out ++ concat (map (other_line l.self.catalog.now l.self.job.now l.place) (drop l.other-index l.others)) ≡ string_bytes l.initial.out ++ concat (map (other_line l.self.catalog.now l.self.job.now l.place) l.others)
