use Rattle.std.proofs.Common.{◌≡◌, vec_len}
use Rattle.ssb_files.proofs.files.open_each.Given as goal

abbrev pub invariant-loop-table : goal.invariant-loop-table
invariant-loop-table g l = vec_len l.files ≡ l.table-index
