use Rattle.std.proofs.Common.{◌≡◌, ◌++◌, IsUtf8, string_bytes}
use Rattle.std.specs.Str.Iter.{chars_rest}
use Rattle.ssb_spelling.specs.Conditions.{quotable}
use Rattle.ssb_spelling.proofs.condition.put_quotable.Given as goal

abbrev pub invariant-loop-character : goal.invariant-loop-character
invariant-loop-character l = IsUtf8 (chars_rest l.character-iterator) × (string_bytes l.out ++ quotable (chars_rest l.character-iterator) ≡ string_bytes l.initial.out ++ quotable l.letters)
