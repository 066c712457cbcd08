-- A path shown character by character.
use Rattle.std.proofs.Common.{◌≡◌, ◌++◌, ◌∙◌, [], ℕ, List, length, IsUtf8, chars, encode_utf8, encode_utf8_all, refl, ap}
use Rattle.std.proofs.lemmas.Str.{chars-nil, chars_past_char, encodes-append}
use Rattle.std.proofs.lemmas.List.{nil_from_length}
use Rattle.ssb_files.specs.Shown.{shown_char, shown_path}

pub shown-empty : (path : List ℕ) → length path ≡ 0 → shown_path path ≡ []
shown-empty path none = rw (ap chars (nil_from_length path none) ∙ chars-nil) refl

pub shown-step : (path rest : List ℕ) (c : ℕ) → IsUtf8 path → path ≡ encode_utf8 c ++ rest → shown_path path ≡ encode_utf8_all (shown_char c) ++ shown_path rest
shown-step path rest c utf8 parts = rw (chars_past_char path rest c utf8 parts, encodes-append) refl
