use Rattle.ssb_pipeline.proofs.EveryRun.{is-lawful, one-section, stands}
use Rattle.ssb_pipeline.proofs.law.every_run.Goals as goal

pub returns-clause-lawful : goal.returns-clause-lawful
returns-clause-lawful c = is-lawful

pub returns-clause-whole : goal.returns-clause-whole
returns-clause-whole c = stands

pub returns-clause-all : goal.returns-clause-all
returns-clause-all c = one-section
