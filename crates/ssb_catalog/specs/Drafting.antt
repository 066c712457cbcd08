-- What the steps of reading a catalog do.
-- For the contracts inside this crate.
use Rattle.std.specs.Prelude.{◌≡◌, ◌≤◌, ◌+◌, ◌++◌, ◌∷◌, ℕ, List, [], length, map, Option, Some, Result, Ok, Err, ⊤, if◌then◌else◌}
use Rattle.std.specs.List.{All, IsDistinct}
use Rattle.std.specs.Str.{bytes_eq}
use Rattle.ssb_catalog.specs.Catalog.{IsTable, is_table_named}
use Rattle.ssb_catalog.specs.Shapes.{TableShape}
use Rattle.ssb_catalog.specs.declared.catalog.ColumnDef.{ColumnDef}
use Rattle.ssb_records.specs.declared.fault.CatalogFault.{CatalogFault}
use Rattle.ssb_records.specs.declared.fault.LoadFault.{LoadFault}
use Rattle.ssb_records.specs.declared.fault.LoadFault.TheVariants as load

abbrev pub put_column : TableShape → ColumnDef → TableShape
put_column t c = record t { columns = t.columns ++ c ∷ [] }

-- tables with one more column, in the table of this name or in a new one
abbrev pub with_column : List TableShape → List ℕ → ColumnDef → List TableShape
with_column [] name c = record { name = name; columns = c ∷ [] } ∷ []
with_column (t ∷ ts) name c = if is_table_named name t then put_column t c ∷ ts else t ∷ with_column ts name c

-- how many columns there are in all
abbrev pub column_count : List TableShape → ℕ
column_count [] = 0
column_count (t ∷ ts) = length t.columns + column_count ts

-- tables that may become a catalog
pub record IsDraft (tables : List TableShape) : Type 0 where
  pub few : length tables ≤ 16
  pub names : IsDistinct bytes_eq (map (λ t. t.name) tables)
  pub each : All IsTable tables

-- a record was refused for its fault, or for memory
abbrev pub Refuses : Option CatalogFault → ℕ → LoadFault → Type 0
Refuses fault n (load.BadCatalog f k) = (fault ≡ Some f) × (k ≡ n)
Refuses fault n load.Memory = ⊤
Refuses fault n (load.Record f k) = ⊥
Refuses fault n (load.Read k) = ⊥

-- a fault of the whole, as it is told
abbrev pub told : {A : Type 0} → Result A (CatalogFault × ℕ) → Result A LoadFault
told (Ok a) = Ok a
told (Err (f, n)) = Err (load.BadCatalog f n)
