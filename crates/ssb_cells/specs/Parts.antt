-- What a column that comes in parts is seen as.
-- For the contracts inside this crate.
use Rattle.std.specs.Prelude.{◌≡◌, ◌≤◌, List, [], ◌∷◌, length, ⊤}
use Rattle.std.specs.List.{flat_map}
use Rattle.ssb_cells.specs.Cell.{Cell}
use Rattle.ssb_cells.specs.Tables.{Filled}
use Rattle.ssb_cells.specs.declared.parts.ColumnParts.TheInside.{Inside}
use Rattle.ssb_terms.specs.declared.rule.ColType.{ColType}

-- the values of columns, those of one behind those of another
abbrev pub values_of : List Filled → List Cell
values_of columns = flat_map (λ (c : Filled). c.values) columns

-- each column has this type
abbrev pub AreOfKind : ColType → List Filled → Type 0
AreOfKind kind [] = ⊤
AreOfKind kind (c ∷ cs) = (c.kind ≡ kind) × AreOfKind kind cs

abbrev pub put_together : Inside → Filled
put_together p = record { kind = p.kind; values = values_of p.parts.items }

-- parts of one type, whose values are counted, as many as a row's number can count
pub record AreParts (p : Inside) : Type 0 where
  pub kinds : AreOfKind p.kind p.parts.items
  pub count : p.len ≡ length (values_of p.parts.items)
  pub room : p.len ≤ 4294967295
