use Rattle.std.proofs.Common.{◌≡◌, ◌≤◌, ◌++◌, drop}
use Rattle.ssb_bind.specs.Binding.{bound_items}
use Rattle.ssb_bind.proofs.bind_select.bound_items.Given as goal

-- aggregates are no more than the outputs so far
abbrev pub invariant-loop-at : goal.invariant-loop-at
invariant-loop-at l = (l.before ≤ l.at) × (l.all ++ bound_items l.before (drop l.at l.outputs) (drop l.at l.items) ≡ bound_items 0 l.outputs l.items)
