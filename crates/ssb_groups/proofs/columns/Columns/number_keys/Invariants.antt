use Rattle.std.proofs.Common.{◌≡◌, ◌-◌, ℕ, List, Some, get_or, length, slice_get}
use Rattle.ssb_groups.specs.Keys.{domains_of, key_of}
use Rattle.ssb_groups.proofs.NumberedKeys.{IsNumberFrom}
use Rattle.ssb_groups.proofs.columns.Columns.number_keys.Given as goal

abbrev pub invariant-loop-done : goal.invariant-loop-done
invariant-loop-done l =
    record {
      many : length l.numbers.items ≡ length l.block;
      each : (n : ℕ) (rows : List ℕ) → slice_get l.block n ≡ Some rows → IsNumberFrom (domains_of l.fn.self) (l.count - l.done) (key_of l.fn.self rows) (get_or l.numbers.items n 0);
    }
