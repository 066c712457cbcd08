use Rattle.std.proofs.Common.{◌<◌, ◌≤◌, inl, inr, sym, subst, arith}
use Rattle.ssb_pipeline.specs.Batch.{HandsBatch}
use Rattle.ssb_pipeline.specs.Part.{PartState, Ran}
use Rattle.ssb_pipeline.specs.Pass.{known}
use Rattle.ssb_pipeline.specs.Rule.{BringsOwn, Knows}
use Rattle.ssb_pipeline.proofs.Batches.{gets-batch, hands-own}
use Rattle.ssb_pipeline.proofs.Holds.{hold, taken}
use Rattle.ssb_pipeline.proofs.hold.get_tickets.Goals as goal

pub put-requires-clause-ran : goal.put-requires-clause-ran
put-requires-clause-ran g c =
    let in_views = subst (λ n. c.args.section < n) (sym c.requires.pass.count) c.requires.there in
    let h = subst (λ (x : PartState). HandsBatch c.room-room.result.0 c.hand_out_batch.new.tickets.items x c.hand_out_batch.new.part) c.part.ensures.value c.hand_out_batch.ensures in
    let is = taken c.args.section c.take-held.result.section c.args.pass.now c.take-held.new.pass c.take-held.result.part c.take-held.ensures.section in_views c.take-held.ensures.view in
    subst (λ (v : Knows). Ran v.seen c.hand_out_batch.new.part) (sym is) h.ran

pub put-requires-clause-own : goal.put-requires-clause-own
put-requires-clause-own g c =
    let in_views = subst (λ n. c.args.section < n) (sym c.requires.pass.count) c.requires.there in
    let h = subst (λ (x : PartState). HandsBatch c.room-room.result.0 c.hand_out_batch.new.tickets.items x c.hand_out_batch.new.part) c.part.ensures.value c.hand_out_batch.ensures in
    let is = taken c.args.section c.take-held.result.section c.args.pass.now c.take-held.new.pass c.take-held.result.part c.take-held.ensures.section in_views c.take-held.ensures.view in
    let le : c.room-room.result.0 ≤ c.args.batch = elim c.room-room.ensures.room [ inl e ↦ omega (arith, e) | inr e ↦ omega (arith, e) ] in
    subst (λ (v : Knows). BringsOwn v c.hand_out_batch.new.part) (sym is) (hands-own c.args.batch c.room-room.result.0 c.hand_out_batch.new.tickets.items (known c.args.pass.now c.args.section) (known c.args.pass.now c.args.section) c.take-held.result.part c.hand_out_batch.new.part le h)

pub returns-clause-ready : goal.returns-clause-ready
returns-clause-ready g c =
    let in_views = subst (λ n. c.args.section < n) (sym c.requires.pass.count) c.requires.there in
    let h = hold c.args.section c.take-held.result.section c.args.pass.now c.take-held.new.pass c.put.new.pass c.take-held.result.part c.hand_out_batch.new.part c.take-held.ensures.section in_views c.requires.none c.take-held.ensures.view c.put.ensures.view in
    record { only = h.only; pass = c.put.ensures.pass; none = h.none }

pub returns-clause-gets : goal.returns-clause-gets
returns-clause-gets g c =
    let in_views = subst (λ n. c.args.section < n) (sym c.requires.pass.count) c.requires.there in
    let t = c.take-held.ensures in
    let h = hold c.args.section c.take-held.result.section c.args.pass.now c.take-held.new.pass c.put.new.pass c.take-held.result.part c.hand_out_batch.new.part t.section in_views c.requires.none t.view c.put.ensures.view in
    let b = subst (λ (x : PartState). HandsBatch c.room-room.result.0 c.hand_out_batch.new.tickets.items x c.hand_out_batch.new.part) c.part.ensures.value c.hand_out_batch.ensures in
    let le : c.room-room.result.0 ≤ c.args.batch = elim c.room-room.ensures.room [ inl e ↦ omega (arith, e) | inr e ↦ omega (arith, e) ] in
    gets-batch c.args.batch c.room-room.result.0 c.hand_out_batch.new.tickets.items _ _ c.take-held.result.part c.hand_out_batch.new.part le b t.due t.lawful t.reached h.known t.follows
