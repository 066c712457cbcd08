use Rattle.std.proofs.Common.{◌≡◌, ◌++◌, IsUtf8, string_bytes}
use Rattle.std.specs.Str.Iter.{chars_rest}
use Rattle.ssb_files.specs.Shown.{shown_path}
use Rattle.ssb_files.proofs.paths.shown_path.Given as goal

abbrev pub invariant-loop-character : goal.invariant-loop-character
invariant-loop-character l = IsUtf8 (chars_rest l.character-iterator) × (string_bytes l.text ++ shown_path (chars_rest l.character-iterator) ≡ shown_path l.path)
