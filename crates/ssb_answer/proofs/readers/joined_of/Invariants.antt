use Rattle.std.proofs.Common.{◌≡◌, [], map}
use Rattle.ssb_lanes.specs.Joined.{all_bytes, given_upto, sources_in}
use Rattle.ssb_answer.proofs.readers.joined_of.Given as goal

abbrev pub invariant-loop-reader : goal.invariant-loop-reader
invariant-loop-reader g l = record {
  whole : map (λ j. all_bytes (map (λ s. g.R.Read.remaining s.begun.value) (sources_in j.lanes.items))) l.sources.items ≡ map g.R.Read.remaining l.yielded;
  given : map (λ j. given_upto (λ s. s.given.items) j.at (sources_in j.lanes.items)) l.sources.items ≡ map (λ r. []) l.yielded;
}
