-- How a path is shown in a line.
-- Source: own; the escapes are Rust's.
use Rattle.std.specs.Prelude.{ℕ, List, [], ◌∷◌, chars, encode_utf8_all, if◌then◌else◌}
use Rattle.std.specs.List.{flat_map}
use Rattle.std.specs.Char.{is_control}
use Rattle.std.specs.Char.Escape.{escape_default}

-- a control character is shown escaped, as `\n` or `\u{1b}`, and any other as it is
abbrev pub shown_char : ℕ → List ℕ
shown_char c = if is_control c then escape_default c else c ∷ []

-- a path, character by character
abbrev pub shown_path : List ℕ → List ℕ
shown_path path = encode_utf8_all (flat_map shown_char (chars path))
