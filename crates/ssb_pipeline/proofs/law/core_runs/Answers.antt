use Rattle.ssb_pipeline.proofs.RunFacts.{ran-follows, runs, whole}
use Rattle.ssb_pipeline.proofs.law.core_runs.Goals as goal

pub returns-clause-lawful : goal.returns-clause-lawful
returns-clause-lawful c = runs

pub returns-clause-kept : goal.returns-clause-kept
returns-clause-kept c = ran-follows

pub returns-clause-whole : goal.returns-clause-whole
returns-clause-whole c = whole
