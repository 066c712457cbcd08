use Rattle.std.proofs.Common.{◌≡◌, ◌++◌, ◌∙◌, ◌∷◌, [], ap, rules}
use Rattle.std.proofs.lemmas.List.{map-append}
use Rattle.std.proofs.lemmas.List.Elements.{All-head, All-push, All-tail}
use Rattle.ssb_lanes.specs.Joined.{IsUnread}
use Rattle.ssb_lanes.proofs.joined.lanes_of.Goals as goal

pub loop-source-preserved : goal.loop-source-preserved
loop-source-preserved g c =
    let inv = c.loop-source.invariant in
    let source = c.in-Some.source in
    let silent = rw c.in-Some.ensures.steps.0 at inv.nothing in
    rw c.in_ok-push.ensures.items (record {
      sources = map-append (λ l. l.source) c.loop-source.lanes.items _ ∙ ap (λ t. t ++ source ∷ []) inv.sources;
      unread = All-push (IsUnread g.S.Source.given) c.loop-source.lanes.items _ inv.unread (record { nothing = All-head (λ s. g.S.Source.given s ≡ []) source c.next.new.self.rest.items silent; same = search rules });
      nothing = All-tail (λ s. g.S.Source.given s ≡ []) source c.next.new.self.rest.items silent;
    })
