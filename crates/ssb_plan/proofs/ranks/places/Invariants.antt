use Rattle.std.proofs.Common.{◌≡◌, ◌<◌, ℕ, get_or, length}
use Rattle.ssb_plan.proofs.ranks.places.Given as goal

abbrev pub invariant-loop-place : goal.invariant-loop-place
invariant-loop-place l = (length l.places.items ≡ length l.codes) × ((k : ℕ) → k < l.place → get_or l.places.items (get_or l.codes k 0) 0 ≡ k)
