use Rattle.std.proofs.Common.{◌<◌, length, sym, subst}
use Rattle.std.specs.Arc.{arc_value}
use Rattle.ssb_plan.specs.JobShape.{JobShape}
use Rattle.ssb_groups.specs.Stands.{GroupMap, Stands}
use Rattle.ssb_pipeline.specs.Part.{IsOpening}
use Rattle.ssb_reply.specs.Reply.{seen_rows}
use Rattle.ssb_answer.proofs.WorkedOff.{worked-off}
use Rattle.ssb_answer.proofs.alone.group_alone.Goals as goal

pub returns-clause-stands : goal.returns-clause-stands
returns-clause-stands c =
    let j = arc_value c.args.job.now in
    let begins = subst (λ (x : JobShape). IsOpening x c.args.morsel_size 0 1 c.in_ok-part.part) c.in_ok-try_clone.ensures c.in_ok-part.ensures.opening in
    let named = subst (λ (x : JobShape). x.query.fact < length x.query.from) c.deref.ensures c.query-query.ensures.fact in
    let w = c.in_ok-work_off.ensures in
    subst (λ (g : GroupMap). Stands g (seen_rows j)) (sym c.into_groups.ensures.groups)
    (worked-off c.every_run.ensures.all j c.args.morsel_size c.in_ok-part.part c.work_off.new.self c.requires named begins w.grows w.lawful w.whole)
