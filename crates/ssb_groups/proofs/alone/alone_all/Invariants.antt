use Rattle.std.proofs.Common.{◌≡◌, ◌<◌, ◌≤◌, ℕ, get_or, length}
use Rattle.ssb_groups.specs.Alone.{IsAlone}
use Rattle.ssb_keys.specs.declared.kept.Kept.TheVariants as kept
use Rattle.ssb_groups.proofs.alone.alone_all.Given as goal

abbrev pub invariant-loop-at : goal.invariant-loop-at
invariant-loop-at l =
    record {
      many : length l.cells ≡ length l.initial.cells;
      each : (n : ℕ) → n < l.at → IsAlone l.function (get_or l.initial.cells n kept.Null) (get_or l.cells n kept.Null);
      later : (n : ℕ) → l.at ≤ n → get_or l.cells n kept.Null ≡ get_or l.initial.cells n kept.Null;
    }
