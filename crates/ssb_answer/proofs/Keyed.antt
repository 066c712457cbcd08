-- The keys of a job's groups.
use Rattle.std.proofs.Common.{◌∷◌, [], ℕ, zero, suc, List, map, arith}
use Rattle.std.proofs.lemmas.List.{length-map}
use Rattle.ssb_plan.specs.JobShape.{JobShape}
use Rattle.ssb_groups.specs.Seen.{seen}
use Rattle.ssb_rows.specs.Result.{AreKeyed}

-- keys have a value for each group column
pub keyed : (j : JobShape) (rs : List (List ℕ)) → AreKeyed j.query (map (seen j) rs)
keyed j [] k d below = absurd (omega arith)
keyed j (r ∷ rs) zero d below = length-map j.query.groups _
keyed j (r ∷ rs) (suc k) d below = keyed j rs k d (omega arith)
