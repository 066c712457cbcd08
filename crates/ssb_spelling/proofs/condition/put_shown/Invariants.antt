use Rattle.std.proofs.Common.{◌≡◌, ◌++◌, ◌≤◌, string_bytes, encode_utf8_all}
use Rattle.std.specs.Char.Iter.{escape_end, escape_rest}
use Rattle.std.specs.Char.Escape.{escape_default}
use Rattle.ssb_spelling.proofs.condition.put_shown.Given as goal

abbrev pub invariant-loop-mark : goal.invariant-loop-mark
invariant-loop-mark l = (string_bytes l.out ≡ string_bytes l.fn.out ++ encode_utf8_all l.yielded) × (l.yielded ++ escape_rest l.mark-iterator ≡ escape_default l.fn.character) × (escape_end l.mark-iterator ≤ 10)
