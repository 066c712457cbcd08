-- What the loader holds after some records.
-- For the contracts inside this crate.
use Rattle.std.specs.Prelude.{◌≡◌, ◌+◌, ◌++◌, ◌∷◌, ℕ, ℤ, Bool, true, ◌||◌, suc, zero, List, [], length, not, nat_le, Option, None, Some, ⊤, if◌then◌else◌}
use Rattle.std.specs.List.{list_all, list_any}
use Rattle.std.specs.Ordering.{int_eq}
use Rattle.std.specs.Str.{is_utf8}
use Rattle.ssb_cells.specs.Cell.{Cell}
use Rattle.ssb_cells.specs.Tables.{Filled}
use Rattle.ssb_records.specs.Records.{Fields, field}
use Rattle.ssb_load.specs.Rules.{any_field, cell_in, columns_of, is_key_taken, is_bad_number, is_missing, is_too_long, key_of}
use Rattle.ssb_load.specs.Tables.{repeats}
use Rattle.ssb_records.specs.Width.{has_width}
use Rattle.ssb_terms.specs.declared.rule.Rule.{Rule}
use Rattle.ssb_load.specs.declared.value.Test.{Test}
use Rattle.ssb_load.specs.declared.value.Test.TheVariants as tests
use Rattle.ssb_records.specs.declared.fault.RecordFault.{RecordFault}
use Rattle.ssb_records.specs.declared.fault.RecordFault.TheVariants as faults
use Rattle.ssb_records.specs.declared.fault.LoadFault.{LoadFault}
use Rattle.ssb_records.specs.declared.fault.LoadFault.TheVariants as load

-- a field fails a test of its column's rule
abbrev pub fails : Test → Rule → List ℕ → Bool
fails tests.Number = is_bad_number
fails tests.Value = is_missing
fails tests.Length = is_too_long

-- the fault of a record that comes after so many good ones, which have these keys
abbrev pub fault_by : List Rule → ℕ → ℕ → (ℤ → Bool) → Fields → Option RecordFault
fault_by rules max_rows count has r =
    if not (has_width (length rules) r) then Some faults.FieldCount
    else (if not (list_all is_utf8 r) then Some faults.BadUtf8
    else (if any_field (fails tests.Number) rules r then Some faults.BadNumber
    else (if any_field (fails tests.Value) rules r then Some faults.NullNotAllowed
    else (if repeats (key_of rules r) has then Some faults.DuplicateKey
    else (if nat_le max_rows count then Some faults.TooManyRows
    else (if any_field (fails tests.Length) rules r then Some faults.TextTooLong
    else None))))))

-- whether a number is among the keys that were seen
abbrev pub seen_in : List ℤ → ℤ → Bool
seen_in seen z = list_any (int_eq z) seen

abbrev pub with_cell : Filled → Cell → Filled
with_cell c v = record c { values = c.values ++ v ∷ [] }

-- columns with a record more: the first k of them
abbrev pub with_front : ℕ → ℕ → List Rule → List Filled → Fields → List Filled
with_front zero at ps cs r = cs
with_front (suc k) at [] cs r = cs
with_front (suc k) at (p ∷ ps) [] r = []
with_front (suc k) at (p ∷ ps) (c ∷ cs) r = with_cell c (cell_in p.kind (field r at)) ∷ with_front k (at + 1) ps cs r

abbrev pub with_record : List Rule → List Filled → Fields → List Filled
with_record rules cs r = with_front (length rules) 0 rules cs r

-- the keys that were seen, with that of one more record
abbrev pub AddsKey : Option ℤ → List ℤ → List ℤ → Type 0
AddsKey None old new = new ≡ old
AddsKey (Some k) old new = (z : ℤ) → seen_in new z ≡ (if int_eq k z then true else seen_in old z)

-- the columns have so many values, of their types
abbrev pub AreSized : ℕ → List Rule → List Filled → Type 0
AreSized count [] [] = ⊤
AreSized count [] (c ∷ cs) = ⊥
AreSized count (p ∷ ps) [] = ⊥
AreSized count (p ∷ ps) (c ∷ cs) = (c.kind ≡ p.kind) × (length c.values ≡ count) × AreSized count ps cs

-- the columns, and the keys that were seen, are those of these records
pub record Holds (rules : List Rule) (good : List Fields) (seen : List ℤ) (columns : List Filled) : Type 0 where
  pub held : (z : ℤ) → seen_in seen z ≡ is_key_taken rules good z
  pub columns_are : columns ≡ columns_of rules good

-- a record was refused for its fault, or for memory
abbrev pub IsFaultBy : List Rule → ℕ → ℕ → List ℤ → Fields → LoadFault → Type 0
IsFaultBy rules max_rows count seen r (load.Record f n) = (fault_by rules max_rows count (seen_in seen) r ≡ Some f) × (n ≡ count + 1)
IsFaultBy rules max_rows count seen r load.Memory = ⊤
IsFaultBy rules max_rows count seen r (load.Read n) = ⊥
IsFaultBy rules max_rows count seen r (load.BadCatalog f n) = ⊥

-- a field fails some test
abbrev pub fails_some : Rule → List ℕ → Bool
fails_some p f = fails tests.Number p f || (fails tests.Value p f || fails tests.Length p f)
