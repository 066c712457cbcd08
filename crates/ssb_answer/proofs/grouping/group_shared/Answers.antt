use Rattle.std.proofs.Common.{◌∙◌, IfOk, arith, subst}
use Rattle.ssb_groups.specs.Stands.{Stands}
use Rattle.ssb_job.specs.Kept.{AreOneJob}
use Rattle.ssb_plan.specs.JobShape.{JobShape}
use Rattle.ssb_reply.specs.Reply.{seen_rows}
use Rattle.ssb_answer.proofs.WrittenBack.{first-worked}
use Rattle.ssb_answer.proofs.grouping.group_shared.Goals as goal

-- the first pass is worked, as each is
pub finish-requires-clause-pass : goal.finish-requires-clause-pass
finish-requires-clause-pass g c = (first-worked c.in_ok-parts.parts c.as_mut_slice.result.now _ c.run_batches.new.passes c.in_ok-parts.passes.len c.index_mut.result.now (omega (arith, c.run_batches.auto.passes, c.as_mut_slice.ensures.len)) (omega (arith, c.as_mut_slice.ensures.len)) (omega (arith, c.in_ok-parts.ensures.count, c.args.context.now.settings.in_range)) c.index_mut.ensures.value (c.run_batches.ensures 0 c.index_mut.result.now)).pass

pub finish-requires-clause-none : goal.finish-requires-clause-none
finish-requires-clause-none g c = (first-worked c.in_ok-parts.parts c.as_mut_slice.result.now _ c.run_batches.new.passes c.in_ok-parts.passes.len c.index_mut.result.now (omega (arith, c.run_batches.auto.passes, c.as_mut_slice.ensures.len)) (omega (arith, c.as_mut_slice.ensures.len)) (omega (arith, c.in_ok-parts.ensures.count, c.args.context.now.settings.in_range)) c.index_mut.ensures.value (c.run_batches.ensures 0 c.index_mut.result.now)).none

pub returns-clause-stands : goal.returns-clause-stands
returns-clause-stands g c =
    subst (λ (j : JobShape). IfOk c.finish.result (λ made. Stands made (seen_rows j))) (c.in_ok-parts.ensures.job.0 ∙ c.in_ok-shared.ensures) c.finish.ensures.stands

pub returns-clause-job : goal.returns-clause-job
returns-clause-job g c =
    subst (λ (j : JobShape). IfOk c.finish.result (λ made. AreOneJob made.job j)) (c.in_ok-parts.ensures.job.0 ∙ c.in_ok-shared.ensures) c.finish.ensures.job
