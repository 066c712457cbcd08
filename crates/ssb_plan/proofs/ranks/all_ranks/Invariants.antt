use Rattle.std.proofs.Common.{◌≡◌, ◌<◌, ℕ, Some, None, get_or, length, slice_get}
use Rattle.ssb_plan.specs.Ranks.{HasRanks}
use Rattle.ssb_plan.specs.declared.input.Input.{Input}
use Rattle.ssb_plan.proofs.ranks.all_ranks.Given as goal

abbrev pub invariant-loop-at : goal.invariant-loop-at
invariant-loop-at l = (length l.all.items ≡ l.at) × ((n : ℕ) (i : Input) → n < l.at → slice_get l.inputs n ≡ Some i → HasRanks l.tables i (get_or l.all.items n None))
