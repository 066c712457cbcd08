-- What the records of a catalog are judged by, and what a catalog on its way stands for.
-- For the contracts inside this crate.
use Rattle.std.specs.Prelude.{◌≡◌, List, [], length, None, Some}
use Rattle.ssb_catalog.specs.Catalog.{first_catalog_fault, tables_in}
use Rattle.ssb_catalog.specs.CatalogReading.{AreGoodEntries}
use Rattle.ssb_catalog.specs.Drafting.{IsDraft, column_count}
use Rattle.ssb_records.specs.Intake.{Judge}
use Rattle.ssb_records.specs.Records.{Fields}
use Rattle.ssb_catalog.specs.declared.catalog_intake.CatalogIntake.{CatalogIntake}
use Rattle.ssb_records.specs.declared.fault.LoadFault.{LoadFault}
use Rattle.ssb_records.specs.declared.fault.LoadFault.TheVariants as load

-- the first faulty record is the one of this number, for this fault
abbrev pub FirstIs : List Fields → LoadFault → Type 0
FirstIs records (load.Record f n) = ⊥
FirstIs records (load.BadCatalog f n) = first_catalog_fault [] records ≡ Some (f, n)
FirstIs records (load.Read n) = ⊥
FirstIs records load.Memory = ⊥

abbrev pub entries : Judge
entries = record { are_good = AreGoodEntries; first_is = FirstIs }

-- a catalog on its way has the tables of these records, all good
pub record IsDrafting (t : CatalogIntake) (good : List Fields) : Type 0 where
  pub count : length good ≡ t.accepted
  pub clean : first_catalog_fault [] good ≡ None
  pub tables_are : t.tables.items ≡ tables_in good
  pub draft : IsDraft t.tables.items
  pub columns : column_count t.tables.items ≡ t.accepted
