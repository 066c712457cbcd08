-- What a `Joined` tells of itself.
-- Source: own.
use Rattle.std.specs.Prelude.{ℕ, List, Result, length, map}
use Rattle.ssb_cells.specs.Tables.{Filled}
use Rattle.ssb_load.specs.Loading.{LoadsFrom}
use Rattle.ssb_records.specs.declared.fault.LoadFault.{LoadFault}
use Rattle.ssb_terms.specs.declared.rule.Rule.{Rule}
use Rattle.ssb_lanes.specs.Joined.{all_bytes, given_upto, sources_in}
use Rattle.ssb_lanes.specs.declared.joined.Joined.{Joined}
use Rattle.ssb_records.specs.declared.source.Source.{Ghosts as Source}

-- sources one after the other, told as one source
abbrev pub joined_source : {S : Type 0} {s : Source S} → Source (Joined S s)
joined_source {s = s} = record {
  given = λ joined. given_upto s.given joined.at (sources_in joined.lanes.items);
  failures = λ joined. length joined.failed.items;
  ends = λ joined. length joined.ended.items;
  whole = λ joined. all_bytes (map s.whole (sources_in joined.lanes.items));
}

-- a table under these rules, of at most so many rows, was loaded from them
abbrev pub LoadsJoined : {S : Type 0} {s : Source S} → List Rule → ℕ → Joined S s → Joined S s → Result (List Filled) LoadFault → Type 0
LoadsJoined {s = s} = let source = joined_source {s = s} in LoadsFrom source.given source.failures source.ends source.whole
