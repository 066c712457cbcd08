-- Values and rows as an answer keeps them.
-- For the contracts inside this crate.
use Rattle.std.specs.Prelude.{◌≡◌, ◌≤◌, ◌+◌, ⊤, ℕ, List, IsCharBoundary, drop, length, map, slice_range, take}
use Rattle.std.specs.List.{All}
use Rattle.ssb_cells.specs.Cell.{Cell, null, number, text}
use Rattle.ssb_rows.specs.declared.cells.KeptValue.{KeptValue}
use Rattle.ssb_rows.specs.declared.cells.KeptValue.TheVariants as kept
use Rattle.ssb_rows.specs.declared.order.SortKey.{SortKey}

-- what a kept value stands for, by the bytes of all texts
abbrev pub value_cell : List ℕ → KeptValue → Cell
value_cell texts kept.Null = null
value_cell texts (kept.Number n) = number n
value_cell texts (kept.Text from end) = text (slice_range texts from end)

-- these are the bounds of a text among others
pub record IsSpan (texts : List ℕ) (from end : ℕ) : Type 0 where
  pub order : from ≤ end
  pub starts : IsCharBoundary texts from
  pub ends : IsCharBoundary texts end

abbrev pub IsKeptValue : List ℕ → KeptValue → Type 0
IsKeptValue texts kept.Null = ⊤
IsKeptValue texts (kept.Number n) = ⊤
IsKeptValue texts (kept.Text from end) = IsSpan texts from end

-- each kept value stands among these texts for what it stands for among those
abbrev pub KeepsValues : List ℕ → List ℕ → Type 0
KeepsValues old new = (f : KeptValue) → IsKeptValue old f → IsKeptValue new f × (value_cell new f ≡ value_cell old f)

-- the row of a key: so many elements from where it begins
abbrev pub keyed_row : {X : Type 0} → List X → ℕ → SortKey → List X
keyed_row cells width key = take width (drop key.from cells)

-- the rows of keys
abbrev pub keyed_rows : {X : Type 0} → List X → ℕ → List SortKey → List (List X)
keyed_rows cells width keys = map (keyed_row cells width) keys

-- each row lies among them
abbrev pub AreWithin : {X : Type 0} → List X → ℕ → List SortKey → Type 0
AreWithin cells width keys = All (λ key. key.from + width ≤ length cells) keys
