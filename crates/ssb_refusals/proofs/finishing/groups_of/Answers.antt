use Rattle.std.proofs.Common.{◌∙◌, IfOk, subst}
use Rattle.ssb_groups.specs.Stands.{Stands}
use Rattle.ssb_job.specs.Kept.{AreOneJob}
use Rattle.ssb_plan.specs.JobShape.{JobShape}
use Rattle.ssb_answer.specs.Reply.{seen_rows}
use Rattle.ssb_refusals.proofs.finishing.groups_of.Goals as goal

pub returns-clause-stands : goal.returns-clause-stands
returns-clause-stands g c =
    subst (λ (j : JobShape). IfOk c.worked.result (λ made. Stands made (seen_rows j))) (c.in_ok-parts.ensures.job.0 ∙ c.in_ok-shared.ensures) c.worked.ensures.stands

pub returns-clause-job : goal.returns-clause-job
returns-clause-job g c =
    subst (λ (j : JobShape). IfOk c.worked.result (λ made. AreOneJob made.job j)) (c.in_ok-parts.ensures.job.0 ∙ c.in_ok-shared.ensures) c.worked.ensures.job
