use Rattle.std.proofs.Common.{List, arith, subst}
use Rattle.ssb_lanes.specs.Sections.{StandAt, handles_of}
use Rattle.ssb_lanes.specs.declared.spans.Span.{Span}
use Rattle.ssb_lanes.proofs.SpanFacts.{first-and-others, later-ranges, some-range}
use Rattle.ssb_lanes.proofs.sections.divided_into.Goals as goal

pub returns-in-Some-clause-divided : goal.returns-in-Some-clause-divided
returns-in-Some-clause-divided g c =
    let spans = c.in_ok-spans.spans.items in
    let ranges = c.in_ok-spans.ensures.spans in
    let sizes = rw (c.in-Some.is, c.deref.ensures.value) at c.in_ok-later.ensures.sizes in
    let stand = rw (c.in-Some.is, c.deref.ensures.value) at c.in_ok-later.ensures.stand in
    let some = some-range c.len.result spans ranges in record {
      len = c.len.result;
      spans = spans;
      ranges = ranges;
      same = first-and-others spans _ c.index.result.now _ some c.index.ensures sizes;
      stand = subst (λ (ss : List Span). StandAt g.R.File.Seek.stream_position ss (handles_of c.in-Some.later.items)) (later-ranges spans some) stand;
    }

pub returns-in-Some-clause-unread : goal.returns-in-Some-clause-unread
returns-in-Some-clause-unread g c = rw c.in-Some.is at c.in_ok-later.ensures.unread

pub index-requires : goal.index-requires
index-requires g c = let some = some-range c.len.result c.in_ok-spans.spans.items c.in_ok-spans.ensures.spans in omega (arith, some, c.in_ok-spans.spans.ok.0)
