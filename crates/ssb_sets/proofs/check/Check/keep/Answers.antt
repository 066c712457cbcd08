use Rattle.std.proofs.Common.{◌≡◌, rules, to_z, of_z, w64}
use Rattle.ssb_sets.proofs.check.Check.keep.Goals as goal

pub returns-in-Within-clause-rows : goal.returns-in-Within-clause-rows
returns-in-Within-clause-rows c =
    let low : to_z w64 (of_z w64 c.in-Within.low) ≡ c.in-Within.low = search rules in
    let high : to_z w64 (of_z w64 c.in-Within.high) ≡ c.in-Within.high = search rules in
    rw c.in-Within.is (simp (low, high) at c.keep-in-Within.ensures.rows)
