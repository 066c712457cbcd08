use Rattle.ssb_answer.proofs.Running.{replied-over}
use Rattle.ssb_answer.proofs.law.replies_of_files.Goals as goal

pub returns : goal.returns
returns start c files tables text r old new m n loads over = replied-over c files tables text over.answered r old new m n loads over.answers over.writes
