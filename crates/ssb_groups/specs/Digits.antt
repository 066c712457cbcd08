-- Keys as numbers, to which the values of a column are added.
-- For the contracts inside this crate.
use Rattle.std.specs.Prelude.{◌≡◌, ℕ, ◌+◌, ◌*◌, ◌<◌, List, length, get_or, option_map, Some, slice_get}
use Rattle.ssb_cells.specs.Cell.{Cell}
use Rattle.ssb_cells.specs.Tables.{Columns}
use Rattle.ssb_keys.specs.Domains.{HasDigit, digit, radix}
use Rattle.ssb_keys.specs.declared.domain.Domain.{Domain}
use Rattle.ssb_keys.specs.declared.kept.Kept.{Kept}
use Rattle.ssb_plan.specs.declared.input.ColumnRef.{ColumnRef}
use Rattle.ssb_terms.specs.declared.rule.ColType.{ColType}
use Rattle.ssb_groups.specs.Keys.{IsOfKind, kept_cell, kind_of}
use Rattle.ssb_groups.specs.Refs.{cell_in}

-- the digit of a cell of a column of this type is put below those of a key, where there is room for it
pub record AddsDigit (kind : ColType) (d : Domain) (c : Kept) (before after : ℕ) : Type 0 where
  pub kind_is : IsOfKind kind c
  pub digit_is : HasDigit d before c → after ≡ before * radix d + digit d c

-- that of the value of a row of a column
pub record AddsValue (values : List Cell) (kind : ColType) (d : Domain) (row before after : ℕ) : Type 0 where
  pub cell : Kept
  pub value : option_map (kept_cell values) (slice_get values row) ≡ Some cell
  pub adds : AddsDigit kind d cell before after

-- the same of many
pub record AddsDigits (values : List Cell) (kind : ColType) (d : Domain) (rows before after : List ℕ) : Type 0 where
  pub many : length after ≡ length before
  pub each : (n : ℕ) → n < length before → AddsValue values kind d (get_or rows n 0) (get_or before n 0) (get_or after n 0)

-- that of the value of a column in a combination
abbrev pub AddsCell : List Columns → ColumnRef → Domain → List ℕ → ℕ → ℕ → Type 0
AddsCell tables r d rows before after = AddsDigit (kind_of tables r) d (cell_in tables rows r) before after
