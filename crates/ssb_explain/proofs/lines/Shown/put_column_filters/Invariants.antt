use Rattle.std.proofs.Common.{◌≡◌, ◌++◌, drop, map, string_bytes}
use Rattle.ssb_trees.specs.Lists.{concat}
use Rattle.ssb_explain.specs.Explained.{column_line}
use Rattle.ssb_explain.proofs.lines.Shown.put_column_filters.Given as goal

abbrev pub invariant-loop-filter : goal.invariant-loop-filter
invariant-loop-filter l = string_bytes l.out ++ concat (map (column_line l.self.catalog.now l.self.job.now l.place) (drop l.filter-index l.filters)) ≡ string_bytes l.initial.out ++ concat (map (column_line l.self.catalog.now l.self.job.now l.place) l.filters)
