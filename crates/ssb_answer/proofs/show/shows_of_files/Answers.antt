use Rattle.ssb_answer.proofs.ShownFacts.{shown-of-files}
use Rattle.ssb_answer.proofs.show.shows_of_files.Goals as goal

pub returns : goal.returns
returns start c files tables shape text r old new m n loads over = shown-of-files c files shape text tables r old new m n loads over
