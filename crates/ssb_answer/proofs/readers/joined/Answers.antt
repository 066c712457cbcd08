use Rattle.std.proofs.Common.{ap}
use Rattle.ssb_answer.proofs.Fresh.{told-alone}
use Rattle.ssb_answer.proofs.readers.joined.Goals as goal

pub returns-clause-whole : goal.returns-clause-whole
returns-clause-whole g c = told-alone _ _ _ _ _ _ _ c.new-sources.ensures.items c.in_ok-push.ensures.items (ap g.R.Read.remaining c.new.ensures.begun) c.new-2.ensures.whole

pub returns-clause-given : goal.returns-clause-given
returns-clause-given g c = c.new-2.ensures.given
