use Rattle.std.proofs.Common.{◌≡◌, ◌<◌, ℕ, List, Some, get_or, length, slice_get}
use Rattle.std.specs.Prelude.{option_map}
use Rattle.ssb_cells.specs.Cell.{Cell}
use Rattle.ssb_cells.specs.Lent.{AreCodes, AreNulls}
use Rattle.ssb_cells.specs.PackedLent.{codes_in}
use Rattle.ssb_groups.specs.Keys.{IsOfKind, kept_cell}
use Rattle.ssb_terms.specs.declared.rule.ColType.TheVariants as kinds
use Rattle.ssb_keys.specs.declared.kept.Kept.TheVariants as kept
use Rattle.ssb_groups.proofs.column.take_codes.Given as goal

abbrev pub invariant-loop-at : goal.invariant-loop-at
invariant-loop-at l =
    record {
      many : length l.cells ≡ length l.initial.cells;
      each : (values : List Cell) → AreCodes values (codes_in l.fn.codes) → AreNulls values l.nulls → (n : ℕ) → n < l.at → option_map (kept_cell values) (slice_get values (get_or l.rows n 0)) ≡ Some (get_or l.cells n kept.Null);
      kinds : (n : ℕ) → n < l.at → IsOfKind kinds.Text (get_or l.cells n kept.Null);
    }
