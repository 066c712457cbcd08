-- The catalog that records spell, or the first faulty record and what is wrong with it.
-- Source: own. Words are spelt in lower case exactly; names may have letters of either case and are kept in lower case.
use Rattle.std.specs.Prelude.{◌≡◌, ◌<◌, ◌≤◌, ◌+◌, ◌++◌, ◌∷◌, ◌&&◌, ℕ, Bool, true, not, List, [], length, map, nat_le, Option, Some, None, is_none, unwrap_or, Result, Ok, Err, codes, if◌then◌else◌}
use Rattle.std.specs.List.{All, IsDistinct, filter, list_any}
use Rattle.std.specs.Str.{bytes_eq, str_to_ascii_lowercase}
use Rattle.ssb_terms.specs.Names.{is_name}
use Rattle.ssb_terms.specs.declared.rule.ColType.{ColType}
use Rattle.ssb_terms.specs.declared.rule.ColType.TheVariants as kinds
use Rattle.ssb_records.specs.Records.{Fields, field}
use Rattle.ssb_terms.specs.Roles.{is_key}
use Rattle.ssb_catalog.specs.Shapes.{TableShape, is_int}
use Rattle.ssb_records.specs.Width.{has_width}
use Rattle.ssb_catalog.specs.declared.catalog.ColumnDef.{ColumnDef}
use Rattle.ssb_records.specs.declared.fault.CatalogFault.{CatalogFault}
use Rattle.ssb_records.specs.declared.fault.CatalogFault.TheVariants as faults
use Rattle.ssb_terms.specs.declared.rule.Role.{Role}
use Rattle.ssb_terms.specs.declared.rule.Role.TheVariants as roles

-- A record is `table|column|type|role`: what its words say.

abbrev pub kind_named : List ℕ → Option ColType
kind_named word = if bytes_eq word (codes "int") then Some kinds.Int else (if bytes_eq word (codes "text") then Some kinds.Text else None)

abbrev pub role_named : List ℕ → Option Role
role_named word =
    if bytes_eq word (codes "key") then Some roles.Key
    else (if bytes_eq word (codes "need") then Some roles.Need
    else (if bytes_eq word (codes "null") then Some roles.Nullable
    else None))

-- the table that a record speaks of
abbrev pub table_in : Fields → List ℕ
table_in r = str_to_ascii_lowercase (field r 0)

-- what a record that spells a type and a role says of its column
abbrev pub column_in : Fields → ColumnDef
column_in r = record {
  name = str_to_ascii_lowercase (field r 1);
  rule = record { kind = unwrap_or (kind_named (field r 2)) kinds.Int; role = unwrap_or (role_named (field r 3)) roles.Nullable };
}

-- Tables stand in the order of their first record, columns in the order of their records.

-- each name once, at its first place
abbrev pub firsts : List (List ℕ) → List (List ℕ)
firsts [] = []
firsts (x ∷ xs) = x ∷ filter (λ y. not (bytes_eq x y)) (firsts xs)

abbrev pub table_names : List Fields → List (List ℕ)
table_names rs = firsts (map table_in rs)

abbrev pub columns_in : List Fields → List ℕ → List ColumnDef
columns_in rs name = map column_in (filter (λ r. bytes_eq name (table_in r)) rs)

abbrev pub tables_in : List Fields → List TableShape
tables_in rs = map (λ name. record { name = name; columns = columns_in rs name }) (table_names rs)

-- What is wrong with a record.

-- a name of at most 128 bytes
abbrev pub is_short_name : List ℕ → Bool
is_short_name word = is_name word && nat_le (length word) 128

-- the least fault of a record by itself
abbrev pub spelling_fault : Fields → Option CatalogFault
spelling_fault r =
    if not (has_width 4 r) then Some faults.FieldCount
    else (if not (is_short_name (field r 0) && is_short_name (field r 1)) then Some faults.BadName
    else (if is_none (kind_named (field r 2)) then Some faults.BadType
    else (if is_none (role_named (field r 3)) then Some faults.BadRole
    else None)))

abbrev pub is_table_named : List ℕ → TableShape → Bool
is_table_named name t = bytes_eq name t.name

abbrev pub is_column_named : List ℕ → ColumnDef → Bool
is_column_named name c = bytes_eq name c.name

abbrev pub is_key_column : ColumnDef → Bool
is_key_column c = is_key c.rule.role

-- the columns of the table of this name, none where there is no such table
abbrev pub columns_named : List TableShape → List ℕ → List ColumnDef
columns_named [] name = []
columns_named (t ∷ ts) name = if is_table_named name t then t.columns else columns_named ts name

-- a seventeenth table, or a table's sixty-fifth column
abbrev pub is_full_for : List TableShape → List ℕ → Bool
is_full_for tables name =
    if list_any (is_table_named name) tables then nat_le 64 (length (columns_named tables name)) else nat_le 16 (length tables)

-- the least fault of one more column of the table of this name, behind these tables
abbrev pub column_fault : List TableShape → List ℕ → ColumnDef → Option CatalogFault
column_fault tables name c =
    if list_any (is_column_named c.name) (columns_named tables name) then Some faults.ColumnTwice
    else (if is_key_column c && list_any is_key_column (columns_named tables name) then Some faults.KeyTwice
    else (if is_key_column c && not (is_int c.rule.kind) then Some faults.KeyNotInt
    else (if is_full_for tables name then Some faults.TooMany
    else None)))

abbrev pub or_else : Option CatalogFault → Option CatalogFault → Option CatalogFault
or_else (Some f) later = Some f
or_else None later = later

-- the least fault of a record, behind these tables
abbrev pub fault_behind : List TableShape → Fields → Option CatalogFault
fault_behind tables r = or_else (spelling_fault r) (column_fault tables (table_in r) (column_in r))

-- the least fault of a record, behind good ones
abbrev pub catalog_fault_of : List Fields → Fields → Option CatalogFault
catalog_fault_of before r = fault_behind (tables_in before) r

-- a fault with the number of its record, or what comes later
abbrev pub at_record : Option CatalogFault → ℕ → Option (CatalogFault × ℕ) → Option (CatalogFault × ℕ)
at_record (Some f) n later = Some (f, n)
at_record None n later = later

-- the first faulty record behind good ones, numbered from 1
unfoldable pub first_catalog_fault : List Fields → List Fields → Option (CatalogFault × ℕ)
first_catalog_fault good [] = None
first_catalog_fault good (r ∷ rs) = at_record (catalog_fault_of good r) (length good + 1) (first_catalog_fault (good ++ r ∷ []) rs)

-- What is wrong with the whole.

-- the fact table is the one that has no key
abbrev pub is_fact : TableShape → Bool
is_fact t = not (list_any is_key_column t.columns)

abbrev pub fact_tables : List TableShape → List TableShape
fact_tables tables = filter is_fact tables

-- there is one fact table
abbrev pub with_one : {A : Type 0} → List TableShape → A → Result A (CatalogFault × ℕ)
with_one [] a = Err (faults.NoFact, 0)
with_one (t ∷ []) a = Ok a
with_one (t ∷ u ∷ ts) a = Err (faults.TwoFacts, 0)

abbrev pub unless : {A : Type 0} → Option (CatalogFault × ℕ) → Result A (CatalogFault × ℕ) → Result A (CatalogFault × ℕ)
unless (Some f) a = Err f
unless None a = a

-- the catalog, or the first faulty record with its least fault, or what is wrong with the whole
abbrev pub catalog_of : List Fields → Result (List TableShape) (CatalogFault × ℕ)
catalog_of rs = unless (first_catalog_fault [] rs) (with_one (fact_tables (tables_in rs)) (tables_in rs))

-- What each catalog keeps.

-- 1 to 64 columns of different names, at most one of them a key, and that one of numbers; each name of at most 128 bytes
pub record IsTable (t : TableShape) : Type 0 where
  pub some : 0 < length t.columns
  pub few : length t.columns ≤ 64
  pub short_name : length t.name ≤ 128
  pub short_columns : All (λ c. length c.name ≤ 128) t.columns
  pub names : IsDistinct bytes_eq (map (λ c. c.name) t.columns)
  pub one_key : length (filter is_key_column t.columns) ≤ 1
  pub int_key : All (λ c. is_key_column c ≡ true → c.rule.kind ≡ kinds.Int) t.columns

-- 1 to 16 tables of different names, one of them without a key
pub record IsCatalog (tables : List TableShape) : Type 0 where
  pub some : 0 < length tables
  pub few : length tables ≤ 16
  pub names : IsDistinct bytes_eq (map (λ t. t.name) tables)
  pub each : All IsTable tables
  pub one_fact : length (fact_tables tables) ≡ 1
