use Rattle.std.proofs.Common.{◌≡◌, ◌<◌, ℕ, List, [], Some, get_or, length, slice_get}
use Rattle.std.specs.Prelude.{option_map}
use Rattle.ssb_cells.specs.Cell.{Cell}
use Rattle.ssb_cells.specs.Lent.{AreCodes, AreNulls}
use Rattle.ssb_cells.specs.PackedLent.{codes_in}
use Rattle.ssb_groups.specs.Keys.{kept_cell}
use Rattle.ssb_keys.specs.declared.kept.Kept.TheVariants as kept
use Rattle.ssb_groups.proofs.numbers.copy_codes.Given as goal

abbrev pub invariant-loop-at : goal.invariant-loop-at
invariant-loop-at l =
    record {
      many : length l.codes ≡ length l.initial.codes;
      each : (values : List Cell) → AreCodes values (codes_in l.fn.kept) → AreNulls values [] → (n : ℕ) → n < l.at → option_map (kept_cell values) (slice_get values (get_or l.rows n 0)) ≡ Some (kept.Code (get_or l.codes n 0));
    }
