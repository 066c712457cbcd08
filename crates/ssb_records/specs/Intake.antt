-- How records are judged, those of a table as those of a catalog, and what taking them up to the first faulty one answers.
-- For the contracts of what takes records.
use Rattle.std.specs.Prelude.{ℕ, List, Option, ⊤, IfSome}
use Rattle.ssb_records.specs.CutShort.{IsCutShort, IsGoodBefore}
use Rattle.ssb_records.specs.Giving.{given_since}
use Rattle.ssb_records.specs.Records.{Fields, records_of}
use Rattle.ssb_records.specs.declared.fault.LoadFault.{LoadFault}
use Rattle.ssb_records.specs.declared.fault.LoadFault.TheVariants as load

-- What records are judged by: whether none of them is faulty, and whether the first faulty one has this fault.
pub record Judge : Type 1 where
  pub are_good : List Fields → Type 0
  pub first_is : List Fields → LoadFault → Type 0

-- no record is faulty
abbrev pub AreGood : Judge → List Fields → Type 0
AreGood judge records = judge.are_good records

-- the fault is that of the first faulty record, or memory's
abbrev pub Refuses : Judge → List Fields → LoadFault → Type 0
Refuses judge records (load.Record f n) = judge.first_is records (load.Record f n)
Refuses judge records (load.BadCatalog f n) = judge.first_is records (load.BadCatalog f n)
Refuses judge records (load.Read n) = ⊥
Refuses judge records load.Memory = ⊤

-- why not all records of these bytes were taken
abbrev pub StopsBy : Judge → List ℕ → LoadFault → Type 0
StopsBy judge bytes (load.Record f n) = judge.first_is (records_of bytes) (load.Record f n)
StopsBy judge bytes (load.BadCatalog f n) = judge.first_is (records_of bytes) (load.BadCatalog f n)
StopsBy judge bytes (load.Read n) = IsCutShort (AreGood judge) bytes n
StopsBy judge bytes load.Memory = ⊤

-- why not all records of a source's bytes were taken, of which perhaps not all were given
abbrev pub StopsIn : Judge → List ℕ → LoadFault → Type 0
StopsIn judge bytes (load.Record f n) = judge.first_is (records_of bytes) (load.Record f n)
StopsIn judge bytes (load.BadCatalog f n) = judge.first_is (records_of bytes) (load.BadCatalog f n)
StopsIn judge bytes (load.Read n) = IsGoodBefore (AreGood judge) (records_of bytes) n
StopsIn judge bytes load.Memory = ⊤

-- Why not all records of a source were taken: of the bytes that it gave, and of all its bytes where they are known.
pub record Stops {S : Type 0} (given : S → List ℕ) (known : S → Option (List ℕ)) (judge : Judge) (before after : S) (e : LoadFault) : Type 0 where
  pub fails : StopsBy judge (given_since (given before) (given after)) e
  pub told : IfSome (known before) (λ all. StopsIn judge (given_since (given before) all) e)
