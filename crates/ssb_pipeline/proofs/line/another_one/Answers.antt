use Rattle.ssb_pipeline.proofs.Moves.{forks}
use Rattle.ssb_pipeline.proofs.line.another_one.Goals as goal

pub another-requires-clause-rule : goal.another-requires-clause-rule
another-requires-clause-rule c = forks _ _ c.requires.opened.0 c.requires.opened.1
