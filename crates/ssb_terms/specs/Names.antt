-- Words and names, as the query language and the catalog share them.
-- Source: SQL-92, 5.2 <regular identifier>, cut down to ASCII.
use Rattle.std.specs.Prelude.{◌≡◌, true, ℕ, ◌||◌, ◌&&◌, ◌==◌, Bool, false, not, List, [], ◌∷◌}
use Rattle.std.specs.Char.{is_ascii_alphabetic, is_ascii_alphanumeric}
use Rattle.std.specs.List.{list_all}
use Rattle.std.specs.Option.{is_some}
use Rattle.std.specs.Str.{str_to_ascii_lowercase}
use Rattle.ssb_terms.specs.Keywords.{keyword_of}

-- a letter, a digit or `_`
abbrev pub is_word_byte : ℕ → Bool
is_word_byte b = is_ascii_alphanumeric b || (b == 95)

-- a letter, then letters, digits and `_`
abbrev pub is_word : List ℕ → Bool
is_word [] = false
is_word (b ∷ bs) = is_ascii_alphabetic b && list_all is_word_byte bs

-- a reserved word, whatever the case of its letters
abbrev pub is_reserved : List ℕ → Bool
is_reserved word = is_some (keyword_of word)

-- a word that is not reserved
abbrev pub is_name : List ℕ → Bool
is_name word = is_word word && not (is_reserved word)

-- a name whose letters are in lower case
pub record IsLowerName (word : List ℕ) : Type 0 where
  pub name : is_name word ≡ true
  pub lower : str_to_ascii_lowercase word ≡ word
