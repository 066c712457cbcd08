use Rattle.std.proofs.Common.{◌≡◌, ◌≤◌, ◌++◌}
use Rattle.ssb_records.specs.Giving.{given_since}
use Rattle.ssb_lanes.proofs.lane.skip.Given as goal

abbrev pub invariant-loop : goal.invariant-loop
invariant-loop g l = record {
  grows : g.S.Source.given l.source ≡ g.S.Source.given l.fn.source ++ given_since (g.S.Source.given l.fn.source) (g.S.Source.given l.source);
  whole : g.S.Source.whole l.source ≡ g.S.Source.whole l.fn.source;
  failures : g.S.Source.failures l.fn.source ≤ g.S.Source.failures l.source;
  ends : g.S.Source.ends l.fn.source ≤ g.S.Source.ends l.source;
}
