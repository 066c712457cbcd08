use Rattle.ssb_pipeline.proofs.FreeFacts.{free, morsels-apart, sections-apart}
use Rattle.ssb_pipeline.proofs.law.free_parts.Goals as goal

pub returns-clause-free : goal.returns-clause-free
returns-clause-free c = free

pub returns-clause-morsels : goal.returns-clause-morsels
returns-clause-morsels c = morsels-apart

pub returns-clause-sections : goal.returns-clause-sections
returns-clause-sections c = sections-apart
