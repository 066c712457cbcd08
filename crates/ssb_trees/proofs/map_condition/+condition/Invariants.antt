use Rattle.std.proofs.Common.{◌≡◌, ◌++◌, map, drop}
use Rattle.ssb_trees.specs.Conditions.{each_in_order, in_order}
use Rattle.ssb_trees.proofs.map_condition.+condition.Given as goal

-- the rest is made of what is left
abbrev pub invariant-mapped_parts-loop-part : goal.invariant-mapped_parts-loop-part
invariant-mapped_parts-loop-part g l =
    let F = in_order _ _ _ g.M.LeavesInOrder.given g.M.LeavesInOrder.next in
    let rest = each_in_order (map F (drop l.part-index l.parts)) l.operands in
    let whole = each_in_order (map F l.parts) l.fn.operands in
    (l.all ++ rest.0 ≡ whole.0) × (rest.1 ≡ whole.1)
