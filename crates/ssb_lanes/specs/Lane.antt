-- What a thread read of a source.
-- For the contracts inside this crate.
use Rattle.std.specs.Prelude.{◌≡◌, ◌<◌, Option, None, Some, ⊤}
use Rattle.ssb_records.specs.CutShort.{IfRead}
use Rattle.ssb_load.specs.Subject.{Subject}
use Rattle.ssb_lanes.specs.Joined.{HasFailed, IsForth}
use Rattle.ssb_lanes.specs.Part.{HaltsAt, IsPart}
use Rattle.ssb_load.specs.TableIntake.{subject_of}
use Rattle.ssb_records.specs.declared.fault.LoadFault.{LoadFault}
use Rattle.ssb_records.specs.declared.fault.LoadFault.TheVariants as load
use Rattle.ssb_records.specs.declared.source.Source.{Ghosts as Source}
use Rattle.ssb_lanes.specs.declared.lane.Lane.{Lane}
use Rattle.ssb_lanes.specs.declared.lane.Reading.{Reading}

-- it is that of a failed read
abbrev pub IsRead : LoadFault → Type 0
IsRead (load.Record f n) = ⊥
IsRead (load.BadCatalog f n) = ⊥
IsRead (load.Read n) = ⊤
IsRead load.Memory = ⊥

-- a source was not read to its end, and why; a failed read is told only where one failed
pub record Halted {S : Type 0} (s : Source S) (lane : Lane S) (reading : Reading) (e : LoadFault) : Type 0 where
  pub halts : HaltsAt reading.part (s.given lane.source) e
  pub broken : IfRead e (λ n. HasFailed s.failures lane)

-- a source was read to its end
pub record IsReadOut {S : Type 0} (s : Source S) (lane : Lane S) (reading : Reading) : Type 0 where
  pub part : IsPart reading.part (s.given lane.source)
  pub met : 0 < s.ends lane.source

abbrev pub EndsBy : {S : Type 0} → Source S → Lane S → Reading → Option LoadFault → Type 0
EndsBy s lane reading None = IsReadOut s lane reading
EndsBy s lane reading (Some e) = Halted s lane reading e

-- what was read of a source that had given nothing; nothing is told where memory for a part was refused
abbrev pub Reads : {S : Type 0} → Source S → Subject → Lane S → Option Reading → Type 0
Reads s subject lane None = ⊤
Reads s subject lane (Some reading) = (subject_of reading.part.rows ≡ subject) × EndsBy s lane reading reading.stop

-- a lane that a thread read, or for which memory was refused
pub record IsLaneRead {S : Type 0} (s : Source S) (subject : Subject) (lane : Lane S) : Type 0 where
  pub reads : Reads s subject lane lane.read
  pub forth : IsForth s.failures lane
