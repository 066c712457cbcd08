use Rattle.std.proofs.Common.{◌≡◌, ◌∷◌, [], arith, length-append}
use Rattle.std.specs.List.{All}
use Rattle.std.proofs.lemmas.List.Elements.{All-push, All-tail}
use Rattle.ssb_files.proofs.counted.counted_all.Goals as goal

pub loop-sources-preserved : goal.loop-sources-preserved
loop-sources-preserved g c =
    let inv = c.loop-sources.invariant in
    record {
      count = omega (arith, inv.count, c.in_ok-push.ensures.len, length-append c.loop-sources.yielded (c.in-Some.sources ∷ []));
      counted = rw c.in_ok-push.ensures.items (All-push (λ sources. All (λ c. g.S.Source.given c.source ≡ []) sources.items) c.loop-sources.counted.items c.in_ok-each.each inv.counted c.in_ok-each.ensures);
      unread = All-tail (λ sources. All (λ s. g.S.Source.given s ≡ []) sources.items) c.in-Some.sources c.next.new.self.rest.items (rw c.in-Some.ensures.steps.0 at inv.unread);
    }
