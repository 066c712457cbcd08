use Rattle.std.proofs.Common.{◌≡◌, ◌+◌, ◌-◌, true, length, map, vec_len, if◌then◌else◌}
use Rattle.ssb_lanes.specs.Joined.{given_upto, sources_in}
use Rattle.ssb_lanes.proofs.joined.JoinedSource.read.Given as goal

abbrev pub invariant-loop-self : goal.invariant-loop-self
invariant-loop-self g l = record {
  given : given_upto g.S.Source.given l.self.at (sources_in l.self.lanes.items) ≡ given_upto g.S.Source.given l.fn.self.at (sources_in l.fn.self.lanes.items);
  whole : map g.S.Source.whole (sources_in l.self.lanes.items) ≡ map g.S.Source.whole (sources_in l.fn.self.lanes.items);
  begun : l.self.begun ≡ true;
  failed : length l.self.failed.items ≡ length l.fn.self.failed.items;
  ended : length l.self.ended.items ≡ length l.fn.self.ended.items;
}

abbrev pub decreases-loop-self : goal.decreases-loop-self
decreases-loop-self g l = (vec_len l.self.lanes - l.self.at) + (if l.self.stopped then 0 else 1)
