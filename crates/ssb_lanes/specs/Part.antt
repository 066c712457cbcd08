-- What a thread keeps of the bytes that a source gave, which may begin and end in the middle of a line.
-- For the contracts inside this crate.
use Rattle.std.specs.Prelude.{◌≡◌, ◌++◌, ◌∷◌, [], ℕ, List, true, false, ⊤, ◌⊎◌}
use Rattle.ssb_load.specs.Subject.{judge}
use Rattle.ssb_records.specs.Intake.{Refuses}
use Rattle.ssb_records.specs.Lines.{AreLines, EndsInLf, IsPartOfLine}
use Rattle.ssb_records.specs.Records.{Fields, records_of}
use Rattle.ssb_load.specs.TableIntake.{IsLoading, subject_of}
use Rattle.ssb_records.specs.declared.fault.LoadFault.{LoadFault}
use Rattle.ssb_records.specs.declared.fault.LoadFault.TheVariants as load
use Rattle.ssb_lanes.specs.declared.part.Part.{Part}

-- before the first line feed nothing is known but that none has come
pub record IsUncut (p : Part) (lines : List ℕ) : Type 0 where
  pub cut : p.is_cut ≡ false
  pub head : IsPartOfLine p.head.items
  pub none : lines ≡ []
  pub tail : p.tail.items ≡ []

-- these bytes are the head, which ends with the first line feed, the lines whose records were taken, and the tail, in which no line ends
pub record IsPart (p : Part) (bytes : List ℕ) : Type 0 where
  pub lines : List ℕ
  pub split : bytes ≡ p.head.items ++ (lines ++ p.tail.items)
  pub whole : AreLines lines
  pub taken : IsLoading p.rows (records_of (10 ∷ lines))
  pub tail : IsPartOfLine p.tail.items
  pub head : IsUncut p lines ⊎ ((p.is_cut ≡ true) × EndsInLf p.head.items)

-- some bytes make the part, and no line is begun in its tail
abbrev pub IsAtLine : Part → Type 0
IsAtLine p = (bytes : List ℕ) × (p.tail.items ≡ []) × IsPart p bytes

-- a record of the lines behind the head was refused, whatever comes behind these lines
pub record IsRefused (p : Part) (bytes : List ℕ) (e : LoadFault) : Type 0 where
  pub lines : List ℕ
  pub rest : List ℕ
  pub split : bytes ≡ p.head.items ++ (lines ++ rest)
  pub whole : AreLines lines
  pub cut : p.is_cut ≡ true
  pub head : EndsInLf p.head.items
  pub refuses : (more : List Fields) → Refuses (judge (subject_of p.rows)) (records_of (10 ∷ lines) ++ more) e

-- why the lines of a piece were not all taken
abbrev pub RefusesPart : Part → List ℕ → LoadFault → Type 0
RefusesPart p bytes (load.Record f n) = IsRefused p bytes (load.Record f n)
RefusesPart p bytes (load.BadCatalog f n) = ⊥
RefusesPart p bytes (load.Read n) = ⊥
RefusesPart p bytes load.Memory = ⊤

-- a read failed, and a part of a line that came before it is not among what was taken
pub record IsBrokenOff (p : Part) (bytes : List ℕ) : Type 0 where
  pub done : List ℕ
  pub rest : List ℕ
  pub split : bytes ≡ done ++ rest
  pub part : IsPart p done
  pub tail : p.tail.items ≡ []
  pub rest_part : IsPartOfLine rest

-- why a source was not read to its end
abbrev pub HaltsAt : Part → List ℕ → LoadFault → Type 0
HaltsAt p bytes (load.Record f n) = IsRefused p bytes (load.Record f n)
HaltsAt p bytes (load.BadCatalog f n) = ⊥
HaltsAt p bytes (load.Read n) = IsBrokenOff p bytes
HaltsAt p bytes load.Memory = ⊤
