use Rattle.std.proofs.Common.{◌≡◌, ◌∷◌, [], arith, length-append, refl}
use Rattle.std.specs.List.{All}
use Rattle.std.proofs.lemmas.List.{map-append}
use Rattle.std.proofs.lemmas.List.Elements.{All-push, All-tail}
use Rattle.ssb_lanes.specs.Joined.{given_upto, sources_in}
use Rattle.ssb_lanes.proofs.joined.Joined.of_each.Goals as goal

pub loop-sources-preserved : goal.loop-sources-preserved
loop-sources-preserved g c =
    let inv = c.loop-sources.invariant in
    let items = c.in_ok-push.ensures.items in
    let old = inv.count in
    let more = c.in_ok-push.ensures.len in
    let n = length-append c.loop-sources.yielded (c.in-Some.sources ∷ []) in
    record {
      count = omega (arith, old, more, n);
      sources = rw (items, map-append (λ j. sources_in j.lanes.items) c.loop-sources.joined.items (c.in_ok-source.source ∷ []), map-append (λ sources. sources.items) c.loop-sources.yielded (c.in-Some.sources ∷ []), inv.sources, c.in_ok-source.ensures.sources) refl;
      given = rw items (All-push (λ j. given_upto g.S.Source.given j.at (sources_in j.lanes.items) ≡ []) c.loop-sources.joined.items c.in_ok-source.source inv.given c.in_ok-source.ensures.given);
      unread = All-tail (λ sources. All (λ s. g.S.Source.given s ≡ []) sources.items) c.in-Some.sources c.next.new.self.rest.items (rw c.in-Some.ensures.steps.0 at inv.unread);
    }
