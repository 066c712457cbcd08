-- A text in quotes, character by character.
use Rattle.std.proofs.Common.{◌≡◌, ◌++◌, ◌∙◌, [], ℕ, List, length, IsUtf8, chars, encode_utf8, encode_utf8_all, refl, ap}
use Rattle.std.proofs.lemmas.Str.{chars-nil, chars_past_char, encodes-append}
use Rattle.std.proofs.lemmas.List.{nil_from_length}
use Rattle.ssb_spelling.specs.Conditions.{quotable, quoted_char}

pub quotable-empty : (letters : List ℕ) → length letters ≡ 0 → quotable letters ≡ []
quotable-empty letters none = rw (ap chars (nil_from_length letters none) ∙ chars-nil) refl

pub quotable-step : (letters rest : List ℕ) (c : ℕ) → IsUtf8 letters → letters ≡ encode_utf8 c ++ rest → quotable letters ≡ encode_utf8_all (quoted_char c) ++ quotable rest
quotable-step letters rest c utf8 parts = rw (chars_past_char letters rest c utf8 parts, encodes-append) refl
