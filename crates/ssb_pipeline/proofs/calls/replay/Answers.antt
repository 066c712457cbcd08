use Rattle.std.proofs.Common.{◌∙◌, [], IfSome, List, get_or, refl, sym, subst}
use Rattle.std.specs.Arc.{arc_value}
use Rattle.std.proofs.lemmas.List.{take_all, take_more}
use Rattle.std.proofs.lemmas.List.Elements.{All-nil}
use Rattle.ssb_job.specs.Kept.{AreOneJob}
use Rattle.ssb_plan.specs.JobShape.{JobShape}
use Rattle.ssb_pipeline.specs.Part.{IsOpening}
use Rattle.ssb_pipeline.specs.Replay.{Answers, AreOf, Replays}
use Rattle.ssb_pipeline.specs.Replay.Replays.{over}
use Rattle.ssb_pipeline.specs.declared.calls.Call.{Call}
use Rattle.ssb_pipeline.specs.declared.calls.Call.TheVariants as call
use Rattle.ssb_pipeline.specs.declared.calls.Reply.{Reply}
use Rattle.ssb_pipeline.proofs.Replays.{replays-more}
use Rattle.ssb_pipeline.proofs.calls.replay.Goals as goal

pub loop-place-init : goal.loop-place-init
loop-place-init c = rw (c.new-slots.ensures.items, c.new-replies.ensures.items) (record {
  replays = over;
  own = c.in_ok-own.ensures.opening.job ∙ c.in_ok-try_clone.ensures;
  twin = c.in_ok-twin.ensures.opening.job ∙ c.in_ok-try_clone-2.ensures;
  of = All-nil (λ place. IfSome place (λ t. AreOneJob t.job (arc_value c.args.job)));
})

pub answer-requires-clause-of : goal.answer-requires-clause-of
answer-requires-clause-of c = subst (λ (j : JobShape). AreOf j c.loop-place.slots.items) (sym c.deref.ensures) c.loop-place.invariant.of

pub loop-place-preserved : goal.loop-place-preserved
loop-place-preserved c =
    let calls = c.args.calls.now in
    let l = c.loop-place in
    let a = c.in_ok-reply.ensures in
    let more = take_more calls l.place call.Hand c.loop-place-test.true in
    let answered : Answers (get_or calls l.place call.Hand) c.in_ok-reply.reply (record { own = l.own; twin = l.twin; slots = l.slots.items }) (record { own = c.answer.new.own; twin = c.answer.new.twin; slots = c.answer.new.slots.items }) = a.answers in
    record {
      replays = subst (λ (x : List Call × List Reply). Replays x.0 x.1 (record { own = c.in_ok-own.own; twin = c.in_ok-twin.twin; slots = [] }) (record { own = c.answer.new.own; twin = c.answer.new.twin; slots = c.answer.new.slots.items }))
          (λ k. (sym more k, sym c.in_ok-push.ensures.items k)) (replays-more l.invariant.replays answered);
      own = a.own ∙ c.deref.ensures;
      twin = a.twin ∙ c.deref.ensures;
      of = subst (λ (j : JobShape). AreOf j c.answer.new.slots.items) c.deref.ensures a.of;
    }

pub returns : goal.returns
returns c =
    let l = c.loop-place in
    let calls = c.args.calls.now in
    record {
      own = c.in_ok-own.own;
      twin = c.in_ok-twin.twin;
      own_opening = subst (λ (j : JobShape). IsOpening j c.args.morsel_size c.args.section c.args.sections c.in_ok-own.own) c.in_ok-try_clone.ensures c.in_ok-own.ensures.opening;
      twin_opening = subst (λ (j : JobShape). IsOpening j c.args.morsel_size c.args.section c.args.sections c.in_ok-twin.twin) c.in_ok-try_clone-2.ensures c.in_ok-twin.ensures.opening;
      end = record { own = l.own; twin = l.twin; slots = l.slots.items };
      replays = subst (λ cs. Replays cs l.replies.items (record { own = c.in_ok-own.own; twin = c.in_ok-twin.twin; slots = [] }) (record { own = l.own; twin = l.twin; slots = l.slots.items })) (take_all l.place calls c.loop-place-test.false) l.invariant.replays;
      ended = refl;
      lawful = c.lawful.ensures;
    }
