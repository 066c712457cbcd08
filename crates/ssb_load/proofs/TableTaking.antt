-- A table on its way: a record that is refused, and what the end says.
use Rattle.std.proofs.Common.{◌≡◌, ◌∙◌, ◌++◌, ◌<◌, ℕ, List, [], ◌∷◌, Option, None, Some, Ok, Err, IfSome, refl, sym, ap}
use Rattle.std.proofs.lemmas.List.{append-nil}
use Rattle.ssb_cells.specs.Tables.{Filled}
use Rattle.ssb_load.specs.Subject.{Subject, judge, table}
use Rattle.ssb_records.specs.Intake as intake
use Rattle.ssb_cells.specs.Lawful.{HasOneKey, IsLawful}
use Rattle.ssb_load.specs.Loader.{IsFaultBy}
use Rattle.ssb_records.specs.Giving.{given_since}
use Rattle.ssb_load.specs.Loading.{AreGoodRows, Fails, IsTableFault, Loads, LoadsFrom}
use Rattle.ssb_records.specs.CutShort.{IfRead, IsCutShort}
use Rattle.ssb_records.specs.Records.{Fields, records_of}
use Rattle.ssb_load.specs.Rules.{columns_of}
use Rattle.ssb_load.specs.TableIntake.{IsLoading, subject_of}
use Rattle.ssb_records.specs.declared.fault.LoadFault.{LoadFault}
use Rattle.ssb_records.specs.declared.fault.LoadFault.TheVariants as load
use Rattle.ssb_terms.specs.declared.rule.Rule.{Rule}
use Rattle.ssb_load.specs.declared.table_intake.TableIntake.{TableIntake}
use Rattle.ssb_load.proofs.FaultFacts.{fault-here}
use Rattle.ssb_load.proofs.HoldsFacts.{same-fault}
use Rattle.ssb_load.proofs.LawfulFacts.{lawful}
use Rattle.ssb_records.proofs.LineRecords.{good-lines}
use Rattle.ssb_records.proofs.TakingAll.{always, grows, of-all, refused-fails, refused-in}

-- a faulty record behind good ones is refused for its fault
pub refuses-here : (t : TableIntake) (good rest : List Fields) (r : Fields) (e : LoadFault) → IsLoading t good → IsFaultBy t.rules.items t.max_rows t.accepted t.loader.seen.keys r e
    → intake.Refuses (judge (subject_of t)) (good ++ r ∷ rest) e
refuses-here t good rest r (load.Record f n) h is =
    let faulty = sym (same-fault t.rules.items t.max_rows good t.loader.seen.keys t.loader.columns.items r h.holds) ∙ (rw h.count is.0) in
    rw (is.1, ← h.count) (fault-here t.rules.items t.max_rows good rest r f h.clean faulty)
refuses-here t good rest r load.Memory h is = tt
refuses-here t good rest r (load.Read n) h is = absurd is
refuses-here t good rest r (load.BadCatalog f n) h is = absurd is

pub rules-are : (t : TableIntake) (rules : List Rule) (m : ℕ) → subject_of t ≡ table rules m → t.rules.items ≡ rules
rules-are t rules m e = ap (λ s. s.rules) e

pub limit-is : (t : TableIntake) (rules : List Rule) (m : ℕ) → subject_of t ≡ table rules m → t.max_rows ≡ m
limit-is t rules m e = ap (λ s. s.max_rows) e

-- why no table came, of the bytes given
pub fails-given : (s : Subject) (rules : List Rule) (m : ℕ) (bytes : List ℕ) (e : LoadFault) → s ≡ table rules m → intake.StopsBy (judge s) bytes e → Fails rules m (records_of bytes) e
fails-given s rules m bytes (load.Record f n) is h = let k : intake.StopsBy (judge (table rules m)) bytes (load.Record f n) = rw is at h in rw k refl
fails-given s rules m bytes (load.BadCatalog f n) is h = absurd h
fails-given s rules m bytes (load.Read n) is h = good-lines (AreGoodRows rules m) bytes n (rw is at h)
fails-given s rules m bytes load.Memory is h = tt

pub cut-short : (s : Subject) (rules : List Rule) (m : ℕ) (bytes : List ℕ) (e : LoadFault) → s ≡ table rules m → intake.StopsBy (judge s) bytes e → IfRead e (IsCutShort (AreGoodRows rules m) bytes)
cut-short s rules m bytes (load.Record f n) is h = tt
cut-short s rules m bytes (load.BadCatalog f n) is h = tt
cut-short s rules m bytes (load.Read n) is h = rw is at h
cut-short s rules m bytes load.Memory is h = tt

pub fault-kind : (s : Subject) (rules : List Rule) (m : ℕ) (bytes : List ℕ) (e : LoadFault) → s ≡ table rules m → intake.StopsBy (judge s) bytes e → IsTableFault e
fault-kind s rules m bytes (load.Record f n) is h = tt
fault-kind s rules m bytes (load.BadCatalog f n) is h = absurd h
fault-kind s rules m bytes (load.Read n) is h = tt
fault-kind s rules m bytes load.Memory is h = tt

-- why a table is refused, said of all bytes of a source, where they are known
fails-in : (s : Subject) (rules : List Rule) (m : ℕ) (bytes : List ℕ) (e : LoadFault) → s ≡ table rules m → intake.StopsIn (judge s) bytes e → Fails rules m (records_of bytes) e
fails-in s rules m bytes (load.Record f n) is h = let k : intake.StopsIn (judge (table rules m)) bytes (load.Record f n) = rw is at h in rw k refl
fails-in s rules m bytes (load.BadCatalog f n) is h = absurd h
fails-in s rules m bytes (load.Read n) is h = rw is at h
fails-in s rules m bytes load.Memory is h = tt

pub fails-told : (known : Option (List ℕ)) (base : List ℕ) (s : Subject) (rules : List Rule) (m : ℕ) (e : LoadFault) → s ≡ table rules m → IfSome known (λ all. intake.StopsIn (judge s) (given_since base all) e)
    → IfSome known (λ all. Loads rules m (records_of (given_since base all)) (Err e))
fails-told None base s rules m e is h = tt
fails-told (Some all) base s rules m e is h = fails-in s rules m (given_since base all) e is h

-- the records that were taken are the table
pub gives-table : (t : TableIntake) (rules : List Rule) (m : ℕ) (records : List Fields) (columns : List Filled) → subject_of t ≡ table rules m → IsLoading t records → columns ≡ columns_of t.rules.items records
    → Loads rules m records (Ok columns)
gives-table t rules m records columns is h are = rw (← rules-are t rules m is, ← limit-is t rules m is, h.clean, are) refl

pub all-lawful : (t : TableIntake) (rules : List Rule) (m : ℕ) (records : List Fields) (columns : List Filled) → HasOneKey rules → subject_of t ≡ table rules m → IsLoading t records → columns ≡ columns_of t.rules.items records → IsLawful rules m columns
all-lawful t rules m records columns one is h are =
    lawful rules m records columns one (rw (rules-are t rules m is, limit-is t rules m is) at h.clean) (are ∙ ap (λ rs. columns_of rs records) (rules-are t rules m is))

-- ---- what a load answers

-- why a source's load stops, said of what the load answers
pub loads-stopped : {S : Type 0} (given : S → List ℕ) (failures ends : S → ℕ) (known : S → Option (List ℕ)) (s : Subject) (rules : List Rule) (m : ℕ) (before after : S) (e : LoadFault) → s ≡ table rules m
    → given after ≡ given before ++ given_since (given before) (given after) → known after ≡ known before → IfRead e (λ n. failures before < failures after) → intake.Stops given known (judge s) before after e
    → LoadsFrom given failures ends known rules m before after (Err e)
loads-stopped given failures ends known s rules m before after e is grows whole broken stops =
    let bytes = given_since (given before) (given after) in
    record {
      grows = grows;
      loads = fails-given s rules m bytes e is stops.fails;
      ended = tt;
      broken = broken;
      short = cut-short s rules m bytes e is stops.fails;
      whole = whole;
      told = fails-told (known before) (given before) s rules m e is stops.told;
      lawful = tt;
      faults = fault-kind s rules m bytes e is stops.fails;
    }

-- memory was refused
pub loads-no-memory : {S : Type 0} (given : S → List ℕ) (failures ends : S → ℕ) (known : S → Option (List ℕ)) (rules : List Rule) (m : ℕ) (before after : S) → given after ≡ given before ++ given_since (given before) (given after)
    → known after ≡ known before → LoadsFrom given failures ends known rules m before after (Err load.Memory)
loads-no-memory given failures ends known rules m before after grows whole = record {
  grows = grows;
  whole = whole;
  loads = tt;
  ended = tt;
  told = always (known before) _ (λ all is. tt);
  broken = tt;
  short = tt;
  lawful = tt;
  faults = tt;
}

-- memory was refused before anything was read
pub loads-nothing : {S : Type 0} (given : S → List ℕ) (failures ends : S → ℕ) (known : S → Option (List ℕ)) (rules : List Rule) (m : ℕ) (source : S) → LoadsFrom given failures ends known rules m source source (Err load.Memory)
loads-nothing given failures ends known rules m source = loads-no-memory given failures ends known rules m source source (grows (given source) [] (given source) (sym (append-nil (given source)))) refl

-- a record of bytes that are all of a source's, where these are known, was refused
pub refused-stops : {S : Type 0} (given : S → List ℕ) (known : S → Option (List ℕ)) (s : Subject) (before after : S) (e : LoadFault) → known after ≡ known before → IfSome (known after) (λ all. given after ≡ all)
    → intake.Refuses (judge s) (records_of (given_since (given before) (given after))) e → intake.Stops given known (judge s) before after e
refused-stops given known s before after e same settled refused = record {
  fails = refused-fails (judge s) e (given_since (given before) (given after)) refused;
  told = of-all (known before) (known after) (given after) (λ all. intake.StopsIn (judge s) (given_since (given before) all) e) same settled (refused-in (judge s) e (given_since (given before) (given after)) refused);
}

-- the table of bytes that are all of a source's, where these are known
pub loads-table : {S : Type 0} (given : S → List ℕ) (failures ends : S → ℕ) (known : S → Option (List ℕ)) (rules : List Rule) (m : ℕ) (before after : S) (columns : List Filled) → given after ≡ given before ++ given_since (given before) (given after)
    → known after ≡ known before → ends before < ends after → IfSome (known after) (λ all. given after ≡ all) → Loads rules m (records_of (given_since (given before) (given after))) (Ok columns) → IsLawful rules m columns
    → LoadsFrom given failures ends known rules m before after (Ok columns)
loads-table given failures ends known rules m before after columns grows whole ended settled loads lawful = record {
  grows = grows;
  loads = loads;
  ended = ended;
  broken = tt;
  short = tt;
  whole = whole;
  told = of-all (known before) (known after) (given after) (λ all. Loads rules m (records_of (given_since (given before) all)) (Ok columns)) whole settled loads;
  lawful = lawful;
  faults = tt;
}
