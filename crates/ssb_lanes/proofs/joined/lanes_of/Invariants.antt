use Rattle.std.proofs.Common.{◌≡◌, []}
use Rattle.std.specs.List.{All}
use Rattle.ssb_lanes.specs.Joined.{IsUnread, sources_in}
use Rattle.ssb_lanes.proofs.joined.lanes_of.Given as goal

-- each source so far has its lane, and the others gave nothing
abbrev pub invariant-loop-source : goal.invariant-loop-source
invariant-loop-source g l = record {
  sources : sources_in l.lanes.items ≡ l.yielded;
  unread : All (IsUnread g.S.Source.given) l.lanes.items;
  nothing : All (λ s. g.S.Source.given s ≡ []) l.source-iterator.rest.items;
}
