use Rattle.ssb_pipeline.proofs.RangeFacts.{before-test, place-test}
use Rattle.ssb_pipeline.proofs.part.Part.was_handed.Goals as goal

pub returns-then-self-morsel : goal.returns-then-self-morsel
returns-then-self-morsel c = rw (← c.self.view_is) (place-test c.self.inside.first c.self.inside.next c.args.morsel c.if-self-morsel.true)

pub returns-else-self-morsel : goal.returns-else-self-morsel
returns-else-self-morsel c = rw (← c.self.view_is) (before-test c.self.inside.first c.self.inside.next c.args.morsel c.if-self-morsel.false)
