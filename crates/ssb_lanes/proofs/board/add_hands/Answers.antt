use Rattle.std.proofs.Common.{◌∙◌, subst, sym}
use Rattle.std.specs.List.{All}
use Rattle.std.proofs.lemmas.List.Elements.{All-push}
use Rattle.ssb_load.specs.TableIntake.{subject_of}
use Rattle.ssb_lanes.specs.Berth.{IsHand, Knows}
use Rattle.ssb_lanes.proofs.board.add_hands.Goals as goal

pub hand_of-requires-clause-laid : goal.hand_of-requires-clause-laid
hand_of-requires-clause-laid g c = subst (All (Knows (subject_of c.args.rows.now))) (sym c.loop.invariant.same) c.requires.laid

pub loop-preserved : goal.loop-preserved
loop-preserved g c = record {
  each = c.hand_of.ensures.each;
  same = c.hand_of.ensures.same ∙ c.loop.invariant.same;
  hands = rw c.in_ok-push.ensures.items (All-push (λ h. IsHand (subject_of c.args.rows.now) c.args.berths.now h.items) _ _ c.loop.invariant.hands c.in_ok-hand.ensures.hand);
}
