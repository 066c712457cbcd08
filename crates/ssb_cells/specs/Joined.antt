-- What a column stores once the values of another stand behind its own.
-- For the contracts inside this crate.
use Rattle.std.specs.Prelude.{◌≡◌, ℕ, ◌<◌, ◌≤◌, ◌+◌, List, [], ◌++◌, length, get_or, map, fold, ⊤}
use Rattle.ssb_cells.specs.Cell.{text}
use Rattle.ssb_cells.specs.Codes.{with_text}
use Rattle.ssb_cells.specs.declared.column.Stored.{Stored}
use Rattle.ssb_cells.specs.declared.column.Stored.TheVariants as stored
use Rattle.ssb_cells.specs.declared.texts.Texts.{Texts}
use Rattle.ssb_packed.specs.Recoded.{recoded}

-- the texts, and behind them those of a second list that are not among them
abbrev pub with_texts : List (List ℕ) → List (List ℕ) → List (List ℕ)
with_texts texts more = fold with_text texts (map text more)

-- a table has for each code of the first texts one that spells the same among the second
pub record Recodes (table : List ℕ) (old new : List (List ℕ)) : Type 0 where
  pub each_old : length table ≡ length old
  pub below : (code : ℕ) → code < length old → recoded table code < length new
  pub same : (code : ℕ) → code < length old → get_or new (recoded table code) [] ≡ get_or old code []

-- the codes of a, then those of b by a table, and the texts of both
pub record AreJoined (a b c : Texts) : Type 0 where
  pub dictionary : c.dictionary ≡ with_texts a.dictionary b.dictionary
  pub table : List ℕ
  pub recodes : Recodes table b.dictionary c.dictionary
  pub codes : c.codes ≡ a.codes ++ map (recoded table) b.codes

-- the third stores what the first and then the second stores
abbrev pub IsJoined : Stored → Stored → Stored → Type 0
IsJoined (stored.Int a) (stored.Int b) (stored.Int c) = c ≡ a ++ b
IsJoined (stored.Text a) (stored.Text b) (stored.Text c) = AreJoined a b c
IsJoined _ _ _ = ⊥

-- there are codes for the texts of both
abbrev pub HasRoomFor : Stored → Stored → Type 0
HasRoomFor (stored.Text a) (stored.Text b) = length a.dictionary + length b.dictionary ≤ 4294967295
HasRoomFor _ _ = ⊤
