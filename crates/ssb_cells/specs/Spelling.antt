-- What a dictionary's set of texts is seen as.
-- For the contracts inside this crate.
use Rattle.std.specs.Prelude.{ℕ, ◌≤◌, List, length, map, string_bytes}
use Rattle.std.specs.List.{IsDistinct}
use Rattle.std.specs.Str.{bytes_eq}
use Rattle.ssb_cells.specs.declared.dictionary.Dictionary.TheInside.{Inside}

abbrev pub spellings : Inside → List (List ℕ)
spellings d = map string_bytes d.texts.keys

-- different texts, so many that a code can number them
pub record AreTexts (d : Inside) : Type 0 where
  pub counted : length d.texts.keys ≤ 4294967295
  pub distinct : IsDistinct bytes_eq (spellings d)
