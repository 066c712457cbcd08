use Rattle.std.proofs.Common.{◌≡◌, []}
use Rattle.std.specs.List.{All}
use Rattle.std.proofs.lemmas.List.Elements.{All-head, All-push, All-tail}
use Rattle.ssb_files.proofs.counted.counted_each.Goals as goal

pub loop-source-preserved : goal.loop-source-preserved
loop-source-preserved g c =
    let inv = c.loop-source.invariant in
    let left = rw c.in-Some.ensures.steps.0 at inv.unread in
    record {
      counted = rw c.in_ok-push.ensures.items (All-push (λ c. g.S.Source.given c.source ≡ []) c.loop-source.counted.items _ inv.counted (All-head (λ s. g.S.Source.given s ≡ []) c.in-Some.source c.next.new.self.rest.items left));
      unread = All-tail (λ s. g.S.Source.given s ≡ []) c.in-Some.source c.next.new.self.rest.items left;
    }
