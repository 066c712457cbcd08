use Rattle.std.proofs.Common.{◌≡◌, ◌<◌, ◌≤◌, ℕ, get_or, length, pos}
use Rattle.ssb_cells.specs.Cell.{number}
use Rattle.ssb_groups.specs.Outcomes.{exact}
use Rattle.ssb_groups.specs.Value.{checked, known}
use Rattle.ssb_groups.proofs.alone.apply_numbers.Given as goal

abbrev pub invariant-loop-at : goal.invariant-loop-at
invariant-loop-at l =
    record {
      many : length l.left ≡ length l.initial.left;
      done : (n : ℕ) → n < l.at → known (number (get_or l.left n (pos 0))) ≡ checked (exact l.operation (get_or l.initial.left n (pos 0)) (get_or l.right n (pos 0)));
      later : (n : ℕ) → l.at ≤ n → get_or l.left n (pos 0) ≡ get_or l.initial.left n (pos 0);
    }
