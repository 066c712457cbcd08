use Rattle.std.proofs.Common.{◌≡◌, ◌<◌, ℕ, List, [], Some, get_or, length, pos, slice_get, true}
use Rattle.ssb_cells.specs.Cell.{Cell, number}
use Rattle.ssb_cells.specs.Lent.{AreNulls, AreNumbers}
use Rattle.ssb_cells.specs.PackedLent.{numbers_in}
use Rattle.ssb_groups.specs.Value.{in_range}
use Rattle.ssb_groups.proofs.numbers.copy_numbers.Given as goal

abbrev pub invariant-loop-at : goal.invariant-loop-at
invariant-loop-at l =
    record {
      many : length l.numbers ≡ length l.initial.numbers;
      each : (values : List Cell) → AreNumbers values (numbers_in l.fn.kept) → AreNulls values [] → (n : ℕ) → n < l.at → slice_get values (get_or l.rows n 0) ≡ Some (number (get_or l.numbers n (pos 0)));
      range : (n : ℕ) → n < l.at → in_range (get_or l.numbers n (pos 0)) ≡ true;
    }
