use Rattle.std.proofs.Common.{◌<◌, sym, subst}
use Rattle.ssb_pipeline.specs.Batch.{IsBatchWith, IsDueTo, Settles}
use Rattle.ssb_pipeline.specs.Part.{IsOutIn, PartState, Ran}
use Rattle.ssb_pipeline.specs.Pass.{known}
use Rattle.ssb_pipeline.specs.Rule.{BringsOwn, Knows}
use Rattle.ssb_pipeline.specs.Tickets.{morsels_of}
use Rattle.ssb_pipeline.proofs.Batches.{batch-with, brings-batch, due-is-out, settles-own}
use Rattle.ssb_pipeline.proofs.Holds.{hold, taken}
use Rattle.ssb_pipeline.proofs.hold.bring_back.Goals as goal

pub take_back-requires-clause-made : goal.take_back-requires-clause-made
take_back-requires-clause-made g c =
    let v = known c.args.pass.now c.args.section in
    let t = c.take-held.ensures in
    subst (λ (x : PartState). IsBatchWith (IsOutIn x) c.args.made) (sym c.part.ensures.value)
    (batch-with (IsDueTo v) (IsOutIn c.take-held.result.part) c.args.made (due-is-out v v c.take-held.result.part c.take-held.result.part t.due t.follows) c.requires.made)

pub put-requires-clause-ran : goal.put-requires-clause-ran
put-requires-clause-ran g c =
    let in_views = subst (λ n. c.args.section < n) (sym c.requires.ready.pass.count) c.requires.ready.there in
    let m = c.requires.made in
    let s = subst (λ (x : PartState). Settles (morsels_of m.tickets) x c.take_back.new.part) c.part.ensures.value (c.take_back.ensures.settles m.tickets m.of) in
    let is = taken c.args.section c.take-held.result.section c.args.pass.now c.take-held.new.pass c.take-held.result.part c.take-held.ensures.section in_views c.take-held.ensures.view in
    subst (λ (v : Knows). Ran v.seen c.take_back.new.part) (sym is) s.ran

pub put-requires-clause-own : goal.put-requires-clause-own
put-requires-clause-own g c =
    let in_views = subst (λ n. c.args.section < n) (sym c.requires.ready.pass.count) c.requires.ready.there in
    let v = known c.args.pass.now c.args.section in
    let m = c.requires.made in
    let t = c.take-held.ensures in
    let s = subst (λ (x : PartState). Settles (morsels_of m.tickets) x c.take_back.new.part) c.part.ensures.value (c.take_back.ensures.settles m.tickets m.of) in
    let is = taken c.args.section c.take-held.result.section c.args.pass.now c.take-held.new.pass c.take-held.result.part t.section in_views t.view in
    subst (λ (w : Knows). BringsOwn w c.take_back.new.part) (sym is) (settles-own v v c.take-held.result.part c.take_back.new.part t.due m.tickets s m.each)

pub returns-clause-ready : goal.returns-clause-ready
returns-clause-ready g c =
    let in_views = subst (λ n. c.args.section < n) (sym c.requires.ready.pass.count) c.requires.ready.there in
    let h = hold c.args.section c.take-held.result.section c.args.pass.now c.take-held.new.pass c.put.new.pass c.take-held.result.part c.take_back.new.part c.take-held.ensures.section in_views c.requires.ready.none c.take-held.ensures.view c.put.ensures.view in
    record { only = h.only; pass = c.put.ensures.pass; none = h.none }

pub returns-clause-brings : goal.returns-clause-brings
returns-clause-brings g c =
    let in_views = subst (λ n. c.args.section < n) (sym c.requires.ready.pass.count) c.requires.ready.there in
    let t = c.take-held.ensures in
    let h = hold c.args.section c.take-held.result.section c.args.pass.now c.take-held.new.pass c.put.new.pass c.take-held.result.part c.take_back.new.part t.section in_views c.requires.ready.none t.view c.put.ensures.view in
    λ ts of. brings-batch _ _ c.take-held.result.part c.take_back.new.part t.due ts (subst (λ (x : PartState). Settles (morsels_of ts) x c.take_back.new.part) c.part.ensures.value (c.take_back.ensures.settles ts of)) h.known t.follows
