use Rattle.ssb_cells.proofs.CodeFacts.{codes-tell}
use Rattle.ssb_cells.proofs.column.codes_tell_texts.Goals as goal

pub returns : goal.returns
returns c = codes-tell
