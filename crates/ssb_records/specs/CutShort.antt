-- Where a read failed, or may have: before which record. Records are good where none of them is faulty, of a table as of a catalog.
-- Source: own.
use Rattle.std.specs.Prelude.{◌≡◌, ◌+◌, ◌++◌, ℕ, List, length, ⊤}
use Rattle.ssb_records.specs.Lines.{IsCutAtLf}
use Rattle.ssb_records.specs.Records.{Fields, records_of}
use Rattle.ssb_records.specs.declared.fault.LoadFault.{LoadFault}
use Rattle.ssb_records.specs.declared.fault.LoadFault.TheVariants as load

-- the first records are good, as many as come before this number
abbrev pub IsGoodBefore : (List Fields → Type 0) → List Fields → ℕ → Type 0
IsGoodBefore AreGood records n = (good : List Fields) × (rest : List Fields) × (records ≡ good ++ rest) × AreGood good × (n ≡ length good + 1)

-- a read failed: up to their last line feed the bytes given are one record fewer than this number, all good
pub record IsCutShort (AreGood : List Fields → Type 0) (bytes : List ℕ) (n : ℕ) : Type 0 where
  pub lines : List ℕ
  pub rest : List ℕ
  pub cut : IsCutAtLf bytes lines rest
  pub good : AreGood (records_of lines)
  pub number : n ≡ length (records_of lines) + 1

-- what holds of the number of a failed read
abbrev pub IfRead : LoadFault → (ℕ → Type 0) → Type 0
IfRead (load.Record f n) P = ⊤
IfRead (load.BadCatalog f n) P = ⊤
IfRead (load.Read n) P = P n
IfRead load.Memory P = ⊤
