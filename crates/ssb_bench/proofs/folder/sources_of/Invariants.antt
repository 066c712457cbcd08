use Rattle.std.proofs.Common.{◌≡◌, vec_len}
use Rattle.ssb_bench.proofs.folder.sources_of.Given as goal

abbrev pub invariant-loop-table : goal.invariant-loop-table
invariant-loop-table g l = vec_len l.sources ≡ l.table-index
