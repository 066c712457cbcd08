use Rattle.std.proofs.Common.{◌≡◌, [], length, map, vec_len}
use Rattle.std.specs.List.{All}
use Rattle.ssb_lanes.specs.Joined.{given_upto, sources_in}
use Rattle.ssb_lanes.proofs.joined.Joined.of_each.Given as goal

-- each list so far has its source, and nothing was read of those that are left
abbrev pub invariant-loop-sources : goal.invariant-loop-sources
invariant-loop-sources g l = record {
  count : vec_len l.joined ≡ length l.yielded;
  sources : map (λ j. sources_in j.lanes.items) l.joined.items ≡ map (λ sources. sources.items) l.yielded;
  given : All (λ j. given_upto g.S.Source.given j.at (sources_in j.lanes.items) ≡ []) l.joined.items;
  unread : All (λ sources. All (λ s. g.S.Source.given s ≡ []) sources.items) l.sources-iterator.rest.items;
}
