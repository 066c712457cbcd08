use Rattle.std.proofs.Common.{subst, List, ◌≡◌, ◌∙◌, ◌∷◌, [], map, ap, refl, arith}
use Rattle.std.specs.Io.Take.{take_inner, take_limit}
use Rattle.std.proofs.lemmas.List.{map-append, take_all}
use Rattle.std.proofs.lemmas.List.Elements.{All-push}
use Rattle.ssb_lanes.specs.Sections.{StandAt, handles_of}
use Rattle.ssb_lanes.specs.declared.spans.Span.{Span}
use Rattle.ssb_lanes.proofs.SpanFacts.{sizes-more, stand-more}
use Rattle.ssb_lanes.proofs.sections.sections_anew.Goals as goal

pub loop-span-preserved : goal.loop-span-preserved
loop-span-preserved g c =
    let l = c.loop-span in
    let section = c.in-Some.section in
    rw c.in_ok-push-in-Some.ensures.items (
      All-push (λ s. s.given.items ≡ []) l.sections.items section l.invariant.0 c.in-Some.ensures.unread,
      map-append (λ s. take_limit s.begun.value) l.sections.items (section ∷ [])
          ∙ sizes-more c.args.spans.now l.span-index _ _ _ c.loop-span-test.true c.in-Some.ensures.size l.invariant.1,
      rw (map-append (λ s. take_inner s.begun.value) l.sections.items (section ∷ [])) (stand-more _ c.args.spans.now l.span-index _ _ _ c.loop-span-test.true c.in-Some.ensures.place l.invariant.2),
    )

pub loop-span-init : goal.loop-span-init
loop-span-init g c = rw c.new-sections.ensures.items (λ k d below. absurd (omega (arith, below)), refl, λ tells. refl)

pub returns-clause-unread : goal.returns-clause-unread
returns-clause-unread g c = c.loop-span.invariant.0

pub returns-clause-sizes : goal.returns-clause-sizes
returns-clause-sizes g c = c.loop-span.invariant.1 ∙ ap (map (λ (s : Span). s.size)) (take_all c.loop-span.span-index c.args.spans.now c.loop-span-test.false)

pub returns-clause-stand : goal.returns-clause-stand
returns-clause-stand g c = subst (λ (ss : List Span). StandAt g.R.File.Seek.stream_position ss (handles_of c.loop-span.sections.items)) (take_all c.loop-span.span-index c.args.spans.now c.loop-span-test.false) c.loop-span.invariant.2
