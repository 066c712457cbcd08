use Rattle.std.proofs.Common.{◌≡◌, ◌<◌, ◌≤◌, ℕ, List, get_or, length}
use Rattle.ssb_cells.specs.Cell.{Cell}
use Rattle.ssb_cells.specs.Lent.{AreCodes, AreNulls}
use Rattle.ssb_cells.specs.PackedLent.{codes_in}
use Rattle.ssb_groups.specs.Digits.{AddsValue}
use Rattle.ssb_terms.specs.declared.rule.ColType.TheVariants as kinds
use Rattle.ssb_groups.proofs.digits.add_code_digits.Given as goal

abbrev pub invariant-loop-at : goal.invariant-loop-at
invariant-loop-at l =
    record {
      many : length l.keys ≡ length l.initial.keys;
      done : (values : List Cell) → AreCodes values (codes_in l.fn.codes) → AreNulls values l.nulls → (n : ℕ) → n < l.at → AddsValue values kinds.Text l.domain (get_or l.rows n 0) (get_or l.initial.keys n 0) (get_or l.keys n 0);
      later : (n : ℕ) → l.at ≤ n → get_or l.keys n 0 ≡ get_or l.initial.keys n 0;
    }
