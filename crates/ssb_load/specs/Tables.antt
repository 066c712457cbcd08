-- The table that a file's records give, or its first faulty record with the least fault there.
-- Source: own.
use Rattle.std.specs.Prelude.{◌+◌, ◌++◌, ◌∷◌, ℕ, ℤ, Bool, false, List, [], length, not, nat_le, Option, Some, None, Result, Ok, Err, if◌then◌else◌}
use Rattle.std.specs.List.{list_all}
use Rattle.std.specs.Str.{is_utf8}
use Rattle.ssb_cells.specs.Tables.{Filled}
use Rattle.ssb_records.specs.Records.{Fields}
use Rattle.ssb_load.specs.Rules.{any_field, is_bad_number, is_missing, is_too_long, key_of, is_key_taken, columns_of}
use Rattle.ssb_records.specs.Width.{has_width}
use Rattle.ssb_terms.specs.declared.rule.Rule.{Rule}
use Rattle.ssb_records.specs.declared.fault.RecordFault.{RecordFault}
use Rattle.ssb_records.specs.declared.fault.RecordFault.TheVariants as faults

-- a record's key is one that came before
abbrev pub repeats : Option ℤ → (ℤ → Bool) → Bool
repeats None has = false
repeats (Some z) has = has z

-- the fault of a record that comes after these good ones: the least that applies
abbrev pub fault_of : List Rule → ℕ → List Fields → Fields → Option RecordFault
fault_of rules max_rows good r =
    if not (has_width (length rules) r) then Some faults.FieldCount
    else (if not (list_all is_utf8 r) then Some faults.BadUtf8
    else (if any_field is_bad_number rules r then Some faults.BadNumber
    else (if any_field is_missing rules r then Some faults.NullNotAllowed
    else (if repeats (key_of rules r) (is_key_taken rules good) then Some faults.DuplicateKey
    else (if nat_le max_rows (length good) then Some faults.TooManyRows
    else (if any_field is_too_long rules r then Some faults.TextTooLong
    else None))))))

-- a fault with the number of its record, or what comes later
abbrev pub or_later : Option RecordFault → ℕ → Option (RecordFault × ℕ) → Option (RecordFault × ℕ)
or_later (Some f) n later = Some (f, n)
or_later None n later = later

-- the first faulty record after good ones, with its fault and its number from 1
unfoldable pub first_fault : List Rule → ℕ → List Fields → List Fields → Option (RecordFault × ℕ)
first_fault rules max_rows good [] = None
first_fault rules max_rows good (r ∷ rs) = or_later (fault_of rules max_rows good r) (length good + 1) (first_fault rules max_rows (good ++ r ∷ []) rs)

abbrev pub or_columns : Option (RecordFault × ℕ) → List Filled → Result (List Filled) (RecordFault × ℕ)
or_columns None columns = Ok columns
or_columns (Some fault) columns = Err fault

-- the table of these records under the rules of its columns, with at most so many rows
abbrev pub table_of : List Rule → ℕ → List Fields → Result (List Filled) (RecordFault × ℕ)
table_of rules max_rows records = or_columns (first_fault rules max_rows [] records) (columns_of rules records)
