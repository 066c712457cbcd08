-- What loading a table answers, of records, of bytes, and of a source.
-- Source: own.
use Rattle.std.specs.Prelude.{◌≡◌, ◌<◌, ◌++◌, ℕ, List, [], slice_get, Result, Ok, Err, Option, None, Some, ⊤, IfErr, IfOk, IfSome, OnOk}
use Rattle.ssb_cells.specs.Tables.{Filled}
use Rattle.ssb_records.specs.CutShort.{IsCutShort, IsGoodBefore, IfRead}
use Rattle.ssb_records.specs.Giving.{given_since}
use Rattle.ssb_cells.specs.Lawful.{IsLawful}
use Rattle.ssb_records.specs.Records.{Fields, records_of}
use Rattle.ssb_catalog.specs.Shapes.{TableShape, rules_of}
use Rattle.ssb_load.specs.Tables.{first_fault, table_of}
use Rattle.ssb_terms.specs.declared.rule.Rule.{Rule}
use Rattle.ssb_records.specs.declared.fault.LoadFault.{LoadFault}
use Rattle.ssb_records.specs.declared.fault.LoadFault.TheVariants as load

abbrev pub rules_in : Option TableShape → List Rule
rules_in None = []
rules_in (Some table) = rules_of table

-- what the columns of a table take, by the table's number from 0
abbrev pub rules_at : List TableShape → ℕ → List Rule
rules_at catalog table = rules_in (slice_get catalog table)

-- no record is faulty
abbrev pub AreGoodRows : List Rule → ℕ → List Fields → Type 0
AreGoodRows rules max_rows records = first_fault rules max_rows [] records ≡ None

-- the fault is that of the first faulty record; a read may fail at any record that only good ones precede
abbrev pub Fails : List Rule → ℕ → List Fields → LoadFault → Type 0
Fails rules max_rows records (load.Record f n) = table_of rules max_rows records ≡ Err (f, n)
Fails rules max_rows records (load.BadCatalog f n) = ⊥
Fails rules max_rows records (load.Read n) = IsGoodBefore (AreGoodRows rules max_rows) records n
Fails rules max_rows records load.Memory = ⊤

-- the table of the records, or a fault
abbrev pub Loads : List Rule → ℕ → List Fields → Result (List Filled) LoadFault → Type 0
Loads rules max_rows records (Ok table) = table_of rules max_rows records ≡ Ok table
Loads rules max_rows records (Err e) = Fails rules max_rows records e

-- a fault that loading a table has
abbrev pub IsTableFault : LoadFault → Type 0
IsTableFault (load.Record f n) = ⊤
IsTableFault (load.BadCatalog f n) = ⊥
IsTableFault (load.Read n) = ⊤
IsTableFault load.Memory = ⊤

-- What loading a table of a source answers, and what it took of it. The source tells which bytes it gave, how often a read failed, how often one met the
-- end, and all its bytes where they are known.
pub record LoadsFrom {S : Type 0} (given : S → List ℕ) (failures ends : S → ℕ) (known : S → Option (List ℕ)) (rules : List Rule) (max_rows : ℕ) (before after : S)
    (r : Result (List Filled) LoadFault) : Type 0 where
  -- the source has given what it had given before, and perhaps some bytes more
  pub grows : given after ≡ given before ++ given_since (given before) (given after)
  -- the answer is the table of just the bytes given since, or their fault
  pub loads : Loads rules max_rows (records_of (given_since (given before) (given after))) r
  -- a table comes only where a read met the end
  pub ended : OnOk r (ends before < ends after)
  -- a failed read is answered only where a read failed
  pub broken : IfErr r (λ e. IfRead e (λ n. failures before < failures after))
  -- a failed read is answered with the number of the record on its way
  pub short : IfErr r (λ e. IfRead e (IsCutShort (AreGoodRows rules max_rows) (given_since (given before) (given after))))
  -- where all bytes of the source are known, the answer is that of all of them
  pub whole : known after ≡ known before
  pub told : IfSome (known before) (λ all. Loads rules max_rows (records_of (given_since (given before) all)) r)
  -- a table keeps its rules
  pub lawful : IfOk r (λ t. IsLawful rules max_rows t)
  -- no fault of a catalog is answered
  pub faults : IfErr r IsTableFault
