-- What the records of a table are taken for, and what is wrong with them.
-- For the contracts inside this crate, and those inside `ssb_lanes`.
use Rattle.std.specs.Prelude.{◌≡◌, ℕ, List, [], Some}
use Rattle.ssb_load.specs.Loading.{AreGoodRows}
use Rattle.ssb_load.specs.Tables.{first_fault}
use Rattle.ssb_records.specs.Intake as intake
use Rattle.ssb_records.specs.Records.{Fields}
use Rattle.ssb_records.specs.declared.fault.LoadFault.{LoadFault}
use Rattle.ssb_records.specs.declared.fault.LoadFault.TheVariants as load
use Rattle.ssb_records.specs.declared.fault.RecordFault.{RecordFault}
use Rattle.ssb_terms.specs.declared.rule.Rule.{Rule}

-- a table under these rules, of at most so many rows
pub record Subject : Type 0 where
  pub rules : List Rule
  pub max_rows : ℕ

abbrev pub table : List Rule → ℕ → Subject
table rules max_rows = record { rules = rules; max_rows = max_rows }

-- the first faulty record is the one of this number, for this fault
abbrev pub RefusesRow : Subject → List Fields → RecordFault → ℕ → Type 0
RefusesRow s records f n = first_fault s.rules s.max_rows [] records ≡ Some (f, n)

abbrev pub FirstIs : Subject → List Fields → LoadFault → Type 0
FirstIs s records (load.Record f n) = RefusesRow s records f n
FirstIs s records (load.BadCatalog f n) = ⊥
FirstIs s records (load.Read n) = ⊥
FirstIs s records load.Memory = ⊥

abbrev pub judge : Subject → intake.Judge
judge s = record { are_good = AreGoodRows s.rules s.max_rows; first_is = FirstIs s }
