use Rattle.std.proofs.Common.{rules, ◌≡◌, ◌++◌, ◌∷◌, [], Some, sym, subst}
use Rattle.ssb_pipeline.specs.Replay.{HandsTo, Slots}
use Rattle.ssb_pipeline.specs.Replay.HandsTo.{none, ticket}
use Rattle.ssb_pipeline.specs.declared.calls.Reply.TheVariants as reply
use Rattle.ssb_pipeline.proofs.calls.hand.Goals as goal
use Rattle.ssb_pipeline.proofs.calls.hand.Goals.{in-Ok, in-Err}

pub returns-in_default-clause-hands : goal.returns-in_default-clause-hands
returns-in_default-clause-hands c = none c.in_default.ensures.hands

pub returns-clause-hands : goal.returns-clause-hands
returns-clause-hands c = elim c.match-push.branch [
  | in-Ok w ↦
      let p = c.args.part.now in
      let q = c.hand_out.new.self in
      let slots = c.args.slots.now.items in
      let more : c.push.new.self.items ≡ slots ++ Some c.in-Some.ticket ∷ [] = search rules in
      let came : HandsTo (reply.Ticket c.morsel-morsel.result) p slots q (slots ++ Some c.in-Some.ticket ∷ []) = subst (λ n. HandsTo (reply.Ticket n) p slots q (slots ++ Some c.in-Some.ticket ∷ [])) (sym c.morsel-morsel.ensures) (ticket c.in-Some.ensures.hands) in
      rw w.result-is (subst (λ (l : Slots). HandsTo (reply.Ticket c.morsel-morsel.result) p slots q l) (sym more) came)
  | in-Err w ↦ rw w.result-is tt
]
