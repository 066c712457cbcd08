-- One record more of a catalog on its way.
use Rattle.std.specs.Prelude.{OnOk}
use Rattle.std.proofs.Common.{◌≡◌, ◌∙◌, ◌+◌, ◌++◌, ℕ, List, [], ◌∷◌, length, Option, Some, None, Ok, Err, Result, IfErr, IfSome, refl, arith, length-append}
use Rattle.ssb_catalog.specs.Catalog.{column_fault, column_in, fault_behind, first_catalog_fault, or_else, spelling_fault, table_in, tables_in}
use Rattle.ssb_catalog.specs.CatalogIntake.{IsDrafting, entries}
use Rattle.ssb_catalog.specs.CatalogReading.{AreGoodEntries, IsCatalogFault, ReadsCatalog, RefusesCatalog}
use Rattle.ssb_catalog.specs.Drafting.{Refuses, told, with_column}
use Rattle.ssb_records.specs.CutShort.{IfRead, IsCutShort}
use Rattle.ssb_records.specs.Giving.{given_since}
use Rattle.ssb_records.specs.Intake as intake
use Rattle.ssb_records.specs.Records.{Fields, records_of}
use Rattle.ssb_catalog.specs.Shapes.{TableShape}
use Rattle.ssb_catalog.specs.declared.catalog_intake.CatalogIntake.{CatalogIntake}
use Rattle.ssb_records.specs.declared.fault.CatalogFault.{CatalogFault}
use Rattle.ssb_records.specs.declared.fault.LoadFault.{LoadFault}
use Rattle.ssb_records.specs.declared.fault.LoadFault.TheVariants as load
use Rattle.ssb_catalog.proofs.CatalogFaults.{fault-here, fault-more}
use Rattle.ssb_catalog.proofs.DraftFacts.{count-more, draft-more}
use Rattle.ssb_catalog.proofs.GroupFacts.{tables-push}
use Rattle.ssb_records.proofs.LineRecords.{good-lines}
use Rattle.ssb_catalog.proofs.ShortNames.{short-names}

or-none : (a b : Option CatalogFault) → or_else a b ≡ None → (a ≡ None) × (b ≡ None)
or-none None b e = (refl, e)
or-none (Some f) b e = cc e

-- a catalog on its way takes one more good record
pub drafts-more : (old now : CatalogIntake) (good : List Fields) (f : Fields) → IsDrafting old good → fault_behind old.tables.items f ≡ None → now.tables.items ≡ with_column old.tables.items (table_in f) (column_in f)
    → now.accepted ≡ old.accepted + 1 → IsDrafting now (good ++ f ∷ [])
drafts-more old now good f h none put counted =
    let fault = or-none (spelling_fault f) (column_fault old.tables.items (table_in f) (column_in f)) none in
    let n = length-append good (f ∷ []) in
    let m = h.count in
    record {
      count = omega (arith, n, m, counted);
      clean = fault-more good f h.clean (rw (← h.tables_are) none);
      tables_are = put ∙ (rw h.tables_are (tables-push good f));
      draft = rw put (draft-more old.tables.items (table_in f) (column_in f) (short-names f fault.0) h.draft fault.1);
      columns = rw put (count-more old.tables.items (table_in f) (column_in f) ∙ (let k = h.columns in omega (arith, k, counted)));
    }

-- a faulty record behind good ones is refused for its fault
refused-by : (good rest : List Fields) (r : Fields) (n : ℕ) (e : LoadFault) → first_catalog_fault [] good ≡ None → n ≡ length good + 1 → Refuses (fault_behind (tables_in good) r) n e → intake.Refuses entries (good ++ r ∷ rest) e
refused-by good rest r n (load.BadCatalog f k) clean is h = rw (h.1, is) (fault-here good rest r f clean h.0)
refused-by good rest r n load.Memory clean is h = tt
refused-by good rest r n (load.Record f k) clean is h = absurd h
refused-by good rest r n (load.Read k) clean is h = absurd h

pub refuses-here : (t : CatalogIntake) (good rest : List Fields) (r : Fields) (e : LoadFault) → IsDrafting t good → Refuses (fault_behind t.tables.items r) (t.accepted + 1) e → intake.Refuses entries (good ++ r ∷ rest) e
refuses-here t good rest r e h is = refused-by good rest r (t.accepted + 1) e h.clean (let m = h.count in omega (arith, m)) (rw h.tables_are at is)

-- why no catalog came, of the bytes given
pub tells-given : (bytes : List ℕ) (e : LoadFault) → intake.StopsBy entries bytes e → RefusesCatalog (records_of bytes) e
tells-given bytes (load.BadCatalog f n) h = rw h refl
tells-given bytes (load.Read n) h = good-lines AreGoodEntries bytes n h
tells-given bytes load.Memory h = tt
tells-given bytes (load.Record f n) h = absurd h

pub cut-short : (bytes : List ℕ) (e : LoadFault) → intake.StopsBy entries bytes e → IfRead e (IsCutShort AreGoodEntries bytes)
cut-short bytes (load.BadCatalog f n) h = tt
cut-short bytes (load.Read n) h = h
cut-short bytes load.Memory h = tt
cut-short bytes (load.Record f n) h = tt

refuses-in : (bytes : List ℕ) (e : LoadFault) → intake.StopsIn entries bytes e → RefusesCatalog (records_of bytes) e
refuses-in bytes (load.BadCatalog f n) h = rw h refl
refuses-in bytes (load.Read n) h = h
refuses-in bytes load.Memory h = tt
refuses-in bytes (load.Record f n) h = absurd h

-- why a catalog is refused, said of all bytes of a source, where they are known
pub refuses-told : (known : Option (List ℕ)) (base : List ℕ) (e : LoadFault) → IfSome known (λ all. intake.StopsIn entries (given_since base all) e) → IfSome known (λ all. RefusesCatalog (records_of (given_since base all)) e)
refuses-told None base e h = tt
refuses-told (Some all) base e h = refuses-in (given_since base all) e h

pub fault-kind : (records : List Fields) (e : LoadFault) → RefusesCatalog records e → IsCatalogFault e
fault-kind records (load.BadCatalog f n) h = tt
fault-kind records (load.Read n) h = tt
fault-kind records load.Memory h = tt
fault-kind records (load.Record f n) h = absurd h

read-none : (e : LoadFault) (P : ℕ → Type 0) → IfRead e (λ n. ⊥) → IfRead e P
read-none (load.BadCatalog f n) P h = tt
read-none (load.Read n) P h = absurd h
read-none load.Memory P h = tt
read-none (load.Record f n) P h = tt

-- the whole, judged: a catalog comes only where what was to hold then holds, and no read has failed
pub judged : (r : Result (List TableShape) LoadFault) (records : List Fields) (P : Type 0) (Q : ℕ → Type 0) → ReadsCatalog records r → IfErr r (λ e. IfRead e (λ n. ⊥)) → P → OnOk r P × IfErr r (λ e. IfRead e Q) × IfErr r IsCatalogFault
judged (Ok tables) records P Q reads none h = (h, tt, tt)
judged (Err e) records P Q reads none h = (tt, read-none e Q none, fault-kind records e reads)

-- the whole is judged by no read
pub told-reads : {A : Type 0} (r : Result A (CatalogFault × ℕ)) → IfErr (told r) (λ e. IfRead e (λ n. ⊥))
told-reads (Ok a) = tt
told-reads (Err (f, n)) = tt
