use Rattle.std.proofs.Common.{◌≡◌, ◌<◌, ℕ, get_or, length}
use Rattle.ssb_groups.specs.Alone.{IsApplied}
use Rattle.ssb_keys.specs.declared.kept.Kept.TheVariants as kept
use Rattle.ssb_groups.proofs.alone.apply_all.Given as goal

abbrev pub invariant-loop-at : goal.invariant-loop-at
invariant-loop-at l =
    record {
      many : length l.totals ≡ length l.initial.totals;
      each : (n : ℕ) → n < l.at → IsApplied l.operation l.function (get_or l.left n kept.Null) (get_or l.right n kept.Null) (get_or l.totals n kept.Null);
    }
