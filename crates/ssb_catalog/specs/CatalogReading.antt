-- What reading a catalog answers, of records, and of a source.
-- Source: own.
use Rattle.std.specs.Prelude.{◌≡◌, ◌<◌, ◌++◌, ℕ, List, [], Option, None, Result, Ok, Err, ⊤, IfErr, IfSome, OnOk}
use Rattle.ssb_catalog.specs.Catalog.{catalog_of, first_catalog_fault}
use Rattle.ssb_records.specs.CutShort.{IsCutShort, IsGoodBefore, IfRead}
use Rattle.ssb_records.specs.Giving.{given_since}
use Rattle.ssb_records.specs.Records.{Fields, records_of}
use Rattle.ssb_catalog.specs.Shapes.{TableShape}
use Rattle.ssb_records.specs.declared.fault.LoadFault.{LoadFault}
use Rattle.ssb_records.specs.declared.fault.LoadFault.TheVariants as load

-- no record is faulty
abbrev pub AreGoodEntries : List Fields → Type 0
AreGoodEntries records = first_catalog_fault [] records ≡ None

-- the fault is that of the records; a read may fail at any record that only good ones precede
abbrev pub RefusesCatalog : List Fields → LoadFault → Type 0
RefusesCatalog records (load.BadCatalog f n) = catalog_of records ≡ Err (f, n)
RefusesCatalog records (load.Read n) = IsGoodBefore AreGoodEntries records n
RefusesCatalog records load.Memory = ⊤
RefusesCatalog records (load.Record f n) = ⊥

-- the catalog that the records spell, or why they spell none
abbrev pub ReadsCatalog : List Fields → Result (List TableShape) LoadFault → Type 0
ReadsCatalog records (Ok tables) = catalog_of records ≡ Ok tables
ReadsCatalog records (Err e) = RefusesCatalog records e

-- a fault that reading a catalog has
abbrev pub IsCatalogFault : LoadFault → Type 0
IsCatalogFault (load.Record f n) = ⊥
IsCatalogFault (load.BadCatalog f n) = ⊤
IsCatalogFault (load.Read n) = ⊤
IsCatalogFault load.Memory = ⊤

-- What reading a catalog of a source answers, and what it took of it. The source tells which bytes it gave, how often a read failed, how often one met the
-- end, and all its bytes where they are known.
pub record ReadsFrom {S : Type 0} (given : S → List ℕ) (failures ends : S → ℕ) (known : S → Option (List ℕ)) (before after : S) (r : Result (List TableShape) LoadFault) : Type 0 where
  -- the source has given what it had given before, and perhaps some bytes more
  pub grows : given after ≡ given before ++ given_since (given before) (given after)
  -- the answer is the catalog of just the bytes given since, or their fault
  pub reads : ReadsCatalog (records_of (given_since (given before) (given after))) r
  -- a catalog comes only where a read met the end
  pub ended : OnOk r (ends before < ends after)
  -- a failed read is answered only where a read failed
  pub broken : IfErr r (λ e. IfRead e (λ n. failures before < failures after))
  -- a failed read is answered with the number of the record on its way
  pub short : IfErr r (λ e. IfRead e (IsCutShort AreGoodEntries (given_since (given before) (given after))))
  -- where all bytes of the source are known, the answer is that of all of them
  pub whole : known after ≡ known before
  pub told : IfSome (known before) (λ all. ReadsCatalog (records_of (given_since (given before) all)) r)
  -- no fault of a table's record is answered
  pub faults : IfErr r IsCatalogFault
