-- How a fault is told: by its number and its name.
-- Source: own; docs/FAULTS.md lists them.
use Rattle.std.specs.Prelude.{ℕ, List, codes}
use Rattle.ssb_records.specs.declared.fault.CatalogFault.{CatalogFault}
use Rattle.ssb_records.specs.declared.fault.CatalogFault.TheVariants as reason
use Rattle.ssb_records.specs.declared.fault.RecordFault.{RecordFault}
use Rattle.ssb_records.specs.declared.fault.RecordFault.TheVariants as fault

-- the number and the name of what is wrong with a record
abbrev pub record_title : RecordFault → List ℕ
record_title fault.FieldCount = codes "L1 FieldCount"
record_title fault.BadUtf8 = codes "L2 BadUtf8"
record_title fault.BadNumber = codes "L3 BadNumber"
record_title fault.NullNotAllowed = codes "L4 NullNotAllowed"
record_title fault.DuplicateKey = codes "L5 DuplicateKey"
record_title fault.TooManyRows = codes "L6 TooManyRows"
record_title fault.TextTooLong = codes "L7 TextTooLong"

-- the number of the reason why a file is no catalog
abbrev pub reason_number : CatalogFault → List ℕ
reason_number reason.FieldCount = codes "C1"
reason_number reason.BadName = codes "C2"
reason_number reason.BadType = codes "C3"
reason_number reason.BadRole = codes "C4"
reason_number reason.ColumnTwice = codes "C5"
reason_number reason.KeyTwice = codes "C6"
reason_number reason.KeyNotInt = codes "C7"
reason_number reason.TooMany = codes "C8"
reason_number reason.NoFact = codes "C9"
reason_number reason.TwoFacts = codes "C10"
