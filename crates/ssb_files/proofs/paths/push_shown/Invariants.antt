use Rattle.std.proofs.Common.{◌≡◌, ◌++◌, ◌≤◌, string_bytes, encode_utf8_all}
use Rattle.std.specs.Char.Iter.{escape_end, escape_rest}
use Rattle.std.specs.Char.Escape.{escape_default}
use Rattle.ssb_files.proofs.paths.push_shown.Given as goal

abbrev pub invariant-loop-mark : goal.invariant-loop-mark
invariant-loop-mark l = (string_bytes l.text ≡ string_bytes l.fn.text ++ encode_utf8_all l.yielded) × (l.yielded ++ escape_rest l.mark-iterator ≡ escape_default l.fn.character) × (escape_end l.mark-iterator ≤ 10)
