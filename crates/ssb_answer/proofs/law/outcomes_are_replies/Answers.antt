use Rattle.ssb_answer.proofs.StatementFacts.{outcome-replied}
use Rattle.ssb_answer.proofs.law.outcomes_are_replies.Goals as goal

pub returns : goal.returns
returns start d files s r old loads text answers = outcome-replied d files s r old loads text answers
