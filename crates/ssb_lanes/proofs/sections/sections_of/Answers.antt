use Rattle.std.proofs.Common.{◌≡◌, ◌∷◌, [], arith, subst, sym}
use Rattle.std.proofs.lemmas.List.Elements.{All-cons}
use Rattle.ssb_lanes.specs.Sections.{IsDivided, StandAt, handles_of, sizes_of}
use Rattle.ssb_lanes.proofs.SpanFacts.{all-stand, same-file}
use Rattle.ssb_lanes.proofs.sections.sections_of.Goals as goal

pub returns-clause-alone : goal.returns-clause-alone
returns-clause-alone g c = λ few. let one = c.in_ok-first.ensures.alone few in omega (arith, c.in_ok-insert.ensures.len, one)

pub returns-clause-unread : goal.returns-clause-unread
returns-clause-unread g c = rw c.in_ok-insert.ensures.items (All-cons (λ s. s.given.items ≡ []) c.section_here.result c.in_ok-first.later.items c.section_here.ensures.unread c.in_ok-first.ensures.unread)

pub returns-clause-sections : goal.returns-clause-sections
returns-clause-sections g c =
    let place = g.R.File.Seek.stream_position in
    let later = c.in_ok-first.later.items in
    let d = subst (λ n. IsDivided place (n ∷ sizes_of later) (handles_of later)) (sym c.section_here.ensures.size) c.in_ok-first.ensures.divided in
    rw c.in_ok-insert.ensures.items (record {
      divided = d;
      first = λ file here at. subst (λ f. StandAt place d.spans (f ∷ handles_of later)) (sym (same-file _ file (handles_of later) here)) (all-stand place d.len d.spans file (handles_of later) d.ranges d.stand at);
    })
