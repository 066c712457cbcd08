use Rattle.ssb_groups.specs.Refs.{input_texts}
use Rattle.ssb_groups.proofs.gather.value.Goals as goal

pub returns-in-Number-clause-kept : goal.returns-in-Number-clause-kept
returns-in-Number-clause-kept c = c.kept.ensures.kept (input_texts c.args.job.now.tables c.args.input.now)
