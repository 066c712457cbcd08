use Rattle.std.proofs.Common.{◌≡◌, length}
use Rattle.std.specs.Cmp.Lexicographic.{slice_cmp}
use Rattle.ssb_cells.specs.Order.{cell_cmp}
use Rattle.ssb_rows.proofs.order.compare_all.Given as goal

abbrev pub invariant-loop-first : goal.invariant-loop-first
invariant-loop-first l = slice_cmp cell_cmp l.left l.right ≡ slice_cmp cell_cmp l.fn.a l.fn.b

abbrev pub decreases-loop-first : goal.decreases-loop-first
decreases-loop-first l = length l.left
