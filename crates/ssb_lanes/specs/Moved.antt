-- The first fault of records that come behind others: its number, and whether the limit of rows comes before it.
-- For the contracts inside this crate.
use Rattle.std.specs.Prelude.{◌+◌, ◌==◌, ◌&&◌, ℕ, Bool, true, false, not, nat_le, Option, Some, None, if◌then◌else◌}
use Rattle.ssb_records.specs.declared.fault.LoadFault.{LoadFault}
use Rattle.ssb_records.specs.declared.fault.LoadFault.TheVariants as load
use Rattle.ssb_records.specs.declared.fault.RecordFault.{RecordFault}
use Rattle.ssb_records.specs.declared.fault.RecordFault.TheVariants as faults

-- a fault that a record too many is not told of
abbrev pub comes_after_limit : RecordFault → Bool
comes_after_limit faults.FieldCount = false
comes_after_limit faults.BadUtf8 = false
comes_after_limit faults.BadNumber = false
comes_after_limit faults.NullNotAllowed = false
comes_after_limit faults.DuplicateKey = false
comes_after_limit faults.TooManyRows = true
comes_after_limit faults.TextTooLong = true

-- the n-th record of some has this fault, and so many others come before them
abbrev pub moved_record : ℕ → ℕ → RecordFault → ℕ → RecordFault × ℕ
moved_record before max_rows f n =
    if nat_le (before + n) max_rows then (f, before + n)
    else (if (before + n == max_rows + 1) && not (comes_after_limit f) then (f, max_rows + 1)
    else (faults.TooManyRows, max_rows + 1))

-- the first fault among so many records, none or that of one of them, where so many others come before them
abbrev pub moved_first : ℕ → ℕ → ℕ → Option (RecordFault × ℕ) → Option (RecordFault × ℕ)
moved_first before max_rows count None = if nat_le (before + count) max_rows then None else Some (faults.TooManyRows, max_rows + 1)
moved_first before max_rows count (Some (f, n)) = Some (moved_record before max_rows f n)

abbrev pub of_record : RecordFault × ℕ → LoadFault
of_record q = load.Record q.0 q.1

abbrev pub moved : ℕ → ℕ → LoadFault → LoadFault
moved before max_rows (load.Record f n) = of_record (moved_record before max_rows f n)
moved before max_rows (load.BadCatalog f n) = load.BadCatalog f n
moved before max_rows (load.Read n) = load.Read n
moved before max_rows load.Memory = load.Memory
