use Rattle.ssb_answer.proofs.WholeSessions.{whole-session}
use Rattle.ssb_answer.proofs.law.sessions_are_whole.Goals as goal

pub returns : goal.returns
returns g start = whole-session g.S.Source g.met.S.Source.settled
