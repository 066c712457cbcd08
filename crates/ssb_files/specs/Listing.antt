-- The lines of a catalog that define a table.
-- Source: own, as docs/FORMATS.md has a catalog's file: the table, the column, its type and its role, joined by bars.
use Rattle.std.specs.Prelude.{ℕ, List, [], ◌∷◌, ◌++◌, codes}
use Rattle.std.specs.List.{flat_map}
use Rattle.ssb_terms.specs.declared.rule.ColType.{ColType}
use Rattle.ssb_terms.specs.declared.rule.ColType.TheVariants.{Int, Text}
use Rattle.ssb_terms.specs.declared.rule.Role.{Role}
use Rattle.ssb_terms.specs.declared.rule.Role.TheVariants.{Key, Need, Nullable}
use Rattle.ssb_catalog.specs.Shapes.{TableShape}
use Rattle.ssb_catalog.specs.declared.catalog.ColumnDef.{ColumnDef}

abbrev pub type_word : ColType → List ℕ
type_word Int = codes "int"
type_word Text = codes "text"

abbrev pub role_word : Role → List ℕ
role_word Key = codes "key"
role_word Need = codes "need"
role_word Nullable = codes "null"

-- the line of a column, of the table of this name
abbrev pub column_line : List ℕ → ColumnDef → List ℕ
column_line table c = table ++ 124 ∷ (c.name ++ 124 ∷ (type_word c.rule.kind ++ 124 ∷ (role_word c.rule.role ++ 10 ∷ [])))

-- the lines of a table
abbrev pub table_lines : TableShape → List ℕ
table_lines t = flat_map (column_line t.name) t.columns
