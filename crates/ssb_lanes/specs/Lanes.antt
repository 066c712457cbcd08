-- The sources of a table, read side by side and put together in their order.
-- For the contracts inside this crate.
use Rattle.std.specs.Prelude.{◌+◌, ◌≤◌, ◌<◌, List, length, take}
use Rattle.ssb_records.specs.CutShort.{IfRead}
use Rattle.ssb_records.specs.declared.source.Source.{Ghosts as Source}
use Rattle.std.specs.List.{All, flat_map}
use Rattle.ssb_lanes.specs.Assembly.{Halts, IsAssembled}
use Rattle.ssb_load.specs.Subject.{Subject}
use Rattle.ssb_lanes.specs.Joined.{HasFailedAt, sources_in}
use Rattle.ssb_lanes.specs.declared.assembly.Assembly.{Assembly}
use Rattle.ssb_lanes.specs.declared.lane.Lane.{Lane}
use Rattle.ssb_lanes.specs.declared.lanes.Stop.{Stop}

-- each of these sources was read to its end, and what they gave is put together
pub record AreAdded {S : Type 0} (s : Source S) (a : Assembly) (sources : List S) : Type 0 where
  pub assembled : IsAssembled a (flat_map s.given sources)
  pub met : All (λ x. 0 < s.ends x) sources

-- the sources before this one were read to their ends; with what it gave the bytes so far stop, by a failed read only where a read of it failed
pub record StopsAt {S : Type 0} (s : Source S) (subject : Subject) (lanes : List (Lane S)) (stop : Stop) : Type 0 where
  pub inside : stop.at < length lanes
  pub met : All (λ x. 0 < s.ends x) (take stop.at (sources_in lanes))
  pub halts : Halts subject (flat_map s.given (take (stop.at + 1) (sources_in lanes))) stop.fault
  pub broken : IfRead stop.fault (λ n. HasFailedAt s.failures lanes stop.at)

-- The sources before this one were read to their ends, and a read of this one failed, or all were read to their ends. With what they gave the bytes stop.
pub record IsStopped {S : Type 0} (s : Source S) (subject : Subject) (lanes : List (Lane S)) (stop : Stop) : Type 0 where
  pub inside : stop.at ≤ length lanes
  pub met : All (λ x. 0 < s.ends x) (take stop.at (sources_in lanes))
  pub halts : Halts subject (flat_map s.given (take (stop.at + 1) (sources_in lanes))) stop.fault
  pub failed : stop.at < length lanes → HasFailedAt s.failures lanes stop.at
  pub broken : IfRead stop.fault (λ n. stop.at < length lanes)
