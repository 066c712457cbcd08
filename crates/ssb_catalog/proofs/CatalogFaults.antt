-- The first faulty record of a catalog.
use Rattle.std.proofs.Common.{◌≡◌, ◌+◌, ◌++◌, ℕ, List, [], ◌∷◌, length, Option, Some, None, Result, Ok, Err, refl, append_assoc}
use Rattle.std.proofs.lemmas.List.{append-nil}
use Rattle.ssb_records.specs.Records.{Fields}
use Rattle.ssb_catalog.specs.Shapes.{TableShape}
use Rattle.ssb_catalog.specs.Catalog.{at_record, catalog_fault_of, catalog_of, fact_tables, first_catalog_fault, tables_in, with_one}
use Rattle.ssb_catalog.specs.CatalogReading.{ReadsCatalog}
use Rattle.ssb_catalog.specs.Drafting.{told}
use Rattle.ssb_records.specs.declared.fault.CatalogFault.{CatalogFault}
use Rattle.ssb_records.specs.declared.fault.LoadFault.{LoadFault}

later-none : (o : Option CatalogFault) (n : ℕ) (later : Option (CatalogFault × ℕ)) → at_record o n later ≡ None → (o ≡ None) × (later ≡ None)
later-none None n later e = (refl, e)
later-none (Some f) n later e = cc e

-- good records, and then others
fault-append : (before good rest : List Fields) → first_catalog_fault before good ≡ None → first_catalog_fault before (good ++ rest) ≡ first_catalog_fault (before ++ good) rest
unfolding first_catalog_fault
fault-append before [] rest e = simp append-nil
fault-append before (r ∷ rs) rest e =
    let g = later-none (catalog_fault_of before r) (length before + 1) (first_catalog_fault (before ++ r ∷ []) rs) e in
    let h = fault-append (before ++ r ∷ []) rs rest g.1 in
    rw (g.0, h, append_assoc) refl

pub none-faulty : first_catalog_fault [] [] ≡ None
unfolding first_catalog_fault
none-faulty = refl

pub fault-more : (good : List Fields) (r : Fields) → first_catalog_fault [] good ≡ None → catalog_fault_of good r ≡ None → first_catalog_fault [] (good ++ r ∷ []) ≡ None
unfolding first_catalog_fault
fault-more good r e n = rw (fault-append [] good (r ∷ []) e, n) refl

pub fault-here : (good rest : List Fields) (r : Fields) (f : CatalogFault) → first_catalog_fault [] good ≡ None → catalog_fault_of good r ≡ Some f → first_catalog_fault [] (good ++ r ∷ rest) ≡ Some (f, length good + 1)
unfolding first_catalog_fault
fault-here good rest r f e n = rw (fault-append [] good (r ∷ rest) e, n) refl

tells : (records : List Fields) (r : Result (List TableShape) (CatalogFault × ℕ)) → catalog_of records ≡ r → ReadsCatalog records (told r)
tells records (Ok ts) e = e
tells records (Err (f, n)) e = e

-- good records, and no more
pub good-whole : (good : List Fields) (tables : List TableShape) (result : Result (List TableShape) LoadFault) → first_catalog_fault [] good ≡ None → tables ≡ tables_in good
    → result ≡ told (with_one (fact_tables tables) tables) → ReadsCatalog good result
good-whole good tables result clean are is =
    rw is (tells good (with_one (fact_tables tables) tables) (rw (clean, are) refl))
