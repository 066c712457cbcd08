use Rattle.ssb_answer.proofs.StatementFacts.{outcome-shown}
use Rattle.ssb_answer.proofs.law.outcomes_are_shown.Goals as goal

pub returns : goal.returns
returns start d files shape s r old loads text answers = outcome-shown d files s shape r old loads text answers
