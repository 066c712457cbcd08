use Rattle.std.proofs.Common.{◌∙◌, map, ap}
use Rattle.ssb_lanes.specs.Joined.{all_bytes, given_upto}
use Rattle.ssb_lanes.proofs.JoinedFacts.{given-none, joined-new}
use Rattle.ssb_lanes.proofs.joined.Joined.new.Goals as goal

pub invariant_of-result : goal.invariant_of-result
invariant_of-result g c = record { joined = rw (c.new.ensures, c.new-2.ensures) (joined-new g.S.Source c.in_ok-lanes_of.field-0.items c.in_ok-lanes_of.ensures.unread) }

pub returns-clause-given : goal.returns-clause-given
returns-clause-given g c =
    ap (given_upto g.S.Source.given 0) c.in_ok-lanes_of.ensures.sources ∙ given-none g.S.Source.given c.args.sources.items 0 c.requires

pub returns-clause-whole : goal.returns-clause-whole
returns-clause-whole g c = ap (λ sources. all_bytes (map g.S.Source.whole sources)) c.in_ok-lanes_of.ensures.sources
