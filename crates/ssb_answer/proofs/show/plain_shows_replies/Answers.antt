use Rattle.ssb_answer.proofs.ShownFacts.{plain-replies}
use Rattle.ssb_answer.proofs.show.plain_shows_replies.Goals as goal

pub returns : goal.returns
returns start c tables text r old new m n = plain-replies c tables text r old new m n
