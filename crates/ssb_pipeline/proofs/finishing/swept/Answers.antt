use Rattle.std.proofs.Common.{◌∙◌}
use Rattle.ssb_pipeline.proofs.FinishFacts.{of-grown}
use Rattle.ssb_pipeline.proofs.finishing.swept.Goals as goal

pub returns-in-Ok-clause-over : goal.returns-in-Ok-clause-over
returns-in-Ok-clause-over c = of-grown c.args.part c.sweep.new.self c.into_groups.result c.in-Ok.ensures.grows c.in-Ok.ensures.lawful c.in-Ok.ensures.whole c.into_groups.ensures.groups c.into_groups.ensures.few

pub returns-in-Ok-clause-same : goal.returns-in-Ok-clause-same
returns-in-Ok-clause-same c = λ whole. c.into_groups.ensures.groups ∙ c.in-Ok.ensures.same whole
