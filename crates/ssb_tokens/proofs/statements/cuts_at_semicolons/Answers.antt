use Rattle.ssb_tokens.proofs.StatementFacts.{cuts}
use Rattle.ssb_tokens.proofs.statements.cuts_at_semicolons.Goals as goal

pub returns : goal.returns
returns c = cuts
