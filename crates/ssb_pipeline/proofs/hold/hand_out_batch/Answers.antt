use Rattle.std.proofs.Common.{rules, ◌≡◌, ◌++◌, ◌∷◌, [], ◌+◌, ◌<◌, ◌≤◌, sym, subst, arith}
use Rattle.std.proofs.lemmas.Grind.{common_steps}
use Rattle.ssb_pipeline.specs.Batch.{HandsBatch}
use Rattle.ssb_pipeline.specs.Part.{GivesUp}
use Rattle.ssb_pipeline.proofs.Batches.{Handing, handed-ended, handed-full, handed-lost, handing-more, handing-none}
use Rattle.ssb_pipeline.proofs.hold.hand_out_batch.Goals as goal

pub loop-init : goal.loop-init
loop-init g c = subst (λ ts. Handing ts 0 c.args.part.now c.args.part.now) (sym c.requires) (handing-none c.args.part.now)

pub returns-in_default : goal.returns-in_default
returns-in_default g c =
    let le : c.loop.counter ≤ c.args.room = let many = c.share_of-end.ensures.many in grind (arith, common_steps, many) in
    handed-ended c.loop.tickets.items c.loop.counter c.args.room c.args.part.now c.loop.part le c.loop.invariant c.hand_out.new.self c.in_default.ensures.hands

pub returns-in-Err : goal.returns-in-Err
returns-in-Err g c =
    let le : c.loop.counter ≤ c.args.room = let many = c.share_of-end.ensures.many in grind (arith, common_steps, many) in
    let same : c.push.new.self.items ≡ c.loop.tickets.items = search rules in
    let it : c.in-Err.refused.value ≡ c.in-Some.ticket = search rules in
    subst (λ ts. HandsBatch c.args.room ts c.args.part.now c.give_up.new.self) (sym same)
    (handed-lost c.loop.tickets.items c.loop.counter c.args.part.now c.loop.part c.hand_out.new.self c.in-Some.ticket c.loop.invariant c.in-Some.ensures.hands c.lawful.ensures c.give_up.new.self (subst (λ t. GivesUp t c.hand_out.new.self c.give_up.new.self) it c.give_up.ensures.gives_up) c.args.room le)

pub loop-preserved : goal.loop-preserved
loop-preserved g c =
    let more : c.push.new.self.items ≡ c.loop.tickets.items ++ c.in-Some.ticket ∷ [] = search rules in
    subst (λ ts. Handing ts (c.loop.counter + 1) c.args.part.now c.hand_out.new.self) (sym more)
    (handing-more c.loop.tickets.items c.loop.counter c.args.part.now c.loop.part c.hand_out.new.self c.in-Some.ticket c.loop.invariant c.in-Some.ensures.hands)

pub returns : goal.returns
returns g c =
    let le : c.loop.counter ≤ c.args.room = let many = c.share_of-end.ensures.many in grind (arith, common_steps, many) in
    let some : 0 < c.loop.counter = let one = c.share_of-end.ensures.some in grind (arith, common_steps, one) in
    handed-full c.loop.tickets.items c.loop.counter c.args.room c.args.part.now c.loop.part le c.loop.invariant some
