use Rattle.std.proofs.Common.{◌∙◌, Some, ap, map, refl, subst, sym}
use Rattle.std.specs.List.{All}
use Rattle.ssb_load.specs.Subject.{table}
use Rattle.ssb_load.specs.TableIntake.{subject_of}
use Rattle.ssb_lanes.specs.Berth.{AreOfEach, Knows, known, told_of}
use Rattle.ssb_lanes.specs.Joined.{sources_in}
use Rattle.ssb_lanes.proofs.BoardFacts.{all-image, image-of, of-sources}
use Rattle.ssb_lanes.proofs.board.read_shared.Goals as goal

pub add_hands-added-requires-clause-laid : goal.add_hands-added-requires-clause-laid
add_hands-added-requires-clause-laid g c =
    let Ready = Knows (subject_of c.args.rows.now) in
    subst (All Ready) (sym c.lay_all.ensures.known) (all-image Ready (λ lane. Some (known lane.source c.args.rows.now)) c.replace-unread.result.items (λ lane. (known lane.source c.args.rows.now, refl, refl)))

pub collect-requires-clause-hand : goal.collect-requires-clause-hand
collect-requires-clause-hand g c =
    let Ready = Knows (table c.args.context.now.rules.now c.args.context.now.max_rows) in
    record {
      each = subst (λ berths. AreOfEach berths c.add_hands-added.new.passes.items) (c.deref-2.ensures.value ∙ sym c.deref-4.ensures.value) c.add_hands-added.ensures.each;
      knows = subst (All Ready) (sym (c.add_hands-added.ensures.same ∙ c.lay_all.ensures.known)) (all-image Ready (λ lane. Some (known lane.source c.args.rows.now)) c.replace-unread.result.items (λ lane. (known lane.source c.args.rows.now, refl, c.requires.rows)));
    }

pub returns-clause-whole : goal.returns-clause-whole
returns-clause-whole g c =
    let whole = g.S.Source.whole in
    let unread = c.replace-unread.result.items in
    of-sources whole c.collect.new.lanes.items
    ∙ (c.collect.ensures.whole
    ∙ (ap (map (told_of whole)) (c.add_hands-added.ensures.same ∙ c.lay_all.ensures.known) ∙ (image-of (λ lane. Some (known lane.source c.args.rows.now)) (told_of whole) unread ∙ (sym (of-sources whole unread) ∙ ap (λ lanes. map whole (sources_in lanes.items)) c.replace-unread.ensures.value))))
