-- The tables of a catalog's files, or the first fault: of bytes, and of sources.
-- Source: own. A file is a table of its catalog entry's columns, with at most 4,294,967,295 rows.
use Rattle.std.specs.Prelude.{◌≡◌, ◌+◌, ◌<◌, ◌++◌, ◌∷◌, ℕ, List, [], take, slice_get, slice_index, unwrap_or, Result, Ok, Err, ⊤, Vec}
use Rattle.std.specs.declared.alloc.Global.{Global}
use Rattle.ssb_cells.specs.Tables.{Columns}
use Rattle.ssb_records.specs.CutShort.{IsCutShort}
use Rattle.ssb_records.specs.Giving.{given_since}
use Rattle.ssb_cells.specs.Lawful.{IsLawful, most_rows}
use Rattle.ssb_load.specs.Loading.{AreGoodRows, rules_at}
use Rattle.ssb_records.specs.Records.{records_of}
use Rattle.ssb_catalog.specs.Shapes.{TableShape, rules_of}
use Rattle.ssb_load.specs.Tables.{table_of}
use Rattle.ssb_load.specs.declared.fault.FileFault.{FileFault}
use Rattle.ssb_records.specs.declared.fault.LoadFault.{LoadFault}
use Rattle.ssb_records.specs.declared.fault.LoadFault.TheVariants as load
use Rattle.ssb_records.specs.declared.fault.RecordFault.{RecordFault}

abbrev pub Bytes : Type 0
Bytes = List ℕ

-- a table's number from 0, a fault of its file, and the number of the record
abbrev pub FirstFault : Type 0
FirstFault = ℕ × RecordFault × ℕ

abbrev pub file_table : TableShape → Bytes → Result Columns (RecordFault × ℕ)
file_table shape bytes = table_of (rules_of shape) most_rows (records_of bytes)

-- the table of this number before the later ones, or the first fault
abbrev pub with_table : ℕ → Result Columns (RecordFault × ℕ) → Result (List Columns) FirstFault → Result (List Columns) FirstFault
with_table n (Err (f, k)) later = Err (n, f, k)
with_table n (Ok t) (Err e) = Err e
with_table n (Ok t) (Ok ts) = Ok (t ∷ ts)

-- the tables of these files, one for each table of the catalog, numbered from n
abbrev pub loaded_from : ℕ → List TableShape → List Bytes → Result (List Columns) FirstFault
loaded_from n [] files = Ok []
loaded_from n (s ∷ ss) [] = Ok []
loaded_from n (s ∷ ss) (b ∷ bs) = with_table n (file_table s b) (loaded_from (n + 1) ss bs)

-- the tables of these files in the catalog's order, or the fault of the first file that is no table
abbrev pub loaded : List TableShape → List Bytes → Result (List Columns) FirstFault
loaded catalog files = loaded_from 0 catalog files

-- what a fault of the t-th table says of files whose bytes are known: it is that of the first file that is no table; a failed read or memory may come in
-- place of it
abbrev pub FailsAt : List TableShape → List Bytes → ℕ → LoadFault → Type 0
FailsAt catalog files t (load.Record f n) = loaded catalog files ≡ Err (t, f, n)
FailsAt catalog files t (load.BadCatalog f n) = ⊥
FailsAt catalog files t (load.Read n) = ⊤
FailsAt catalog files t load.Memory = ⊤

-- what loading answers of files whose bytes are known
abbrev pub LoadsAll : List TableShape → List Bytes → Result (Vec Columns Global) FileFault → Type 0
LoadsAll catalog files (Ok tables) = loaded catalog files ≡ Ok tables.items
LoadsAll catalog files (Err e) = FailsAt catalog files e.table e.fault

-- ---- of sources

-- of the bytes of each source, those behind the ones that it had given before
abbrev pub given_each : List Bytes → List Bytes → List Bytes
given_each [] all = []
given_each (b ∷ bs) [] = []
given_each (b ∷ bs) (a ∷ later) = given_since b a ∷ given_each bs later

-- each source has given what it had given before, and perhaps some bytes more
abbrev pub GrewEach : List Bytes → List Bytes → Type 0
GrewEach [] [] = ⊤
GrewEach [] (a ∷ later) = ⊥
GrewEach (b ∷ bs) [] = ⊥
GrewEach (b ∷ bs) (a ∷ later) = (a ≡ b ++ given_since b a) × GrewEach bs later

-- each count has risen
abbrev pub RoseEach : List ℕ → List ℕ → Type 0
RoseEach [] [] = ⊤
RoseEach [] (n ∷ ns) = ⊥
RoseEach (m ∷ ms) [] = ⊥
RoseEach (m ∷ ms) (n ∷ ns) = (m < n) × RoseEach ms ns

-- A read of the t-th source failed, which its count of failures shows: the files before it are tables, and up to its last line feed the t-th is n - 1
-- records, all good.
pub record FailedAt (catalog : List TableShape) (files : List Bytes) (failures_before failures_after : List ℕ) (t n : ℕ) : Type 0 where
  pub tables : List Columns
  pub loads : loaded (take t catalog) (take t files) ≡ Ok tables
  pub rose : slice_index failures_before t < slice_index failures_after t
  pub short : IsCutShort (AreGoodRows (rules_at catalog t) most_rows) (unwrap_or (slice_get files t) []) n

-- ---- what loaded tables keep

-- each table is lawful for its entry of the catalog
abbrev pub AreLawful : List TableShape → List Columns → Type 0
AreLawful [] [] = ⊤
AreLawful [] (t ∷ ts) = ⊥
AreLawful (s ∷ ss) [] = ⊥
AreLawful (s ∷ ss) (t ∷ ts) = IsLawful (rules_of s) most_rows t × AreLawful ss ts
