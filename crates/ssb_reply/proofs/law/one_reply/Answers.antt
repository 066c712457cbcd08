use Rattle.ssb_reply.proofs.OneReply.{one-reply}
use Rattle.ssb_reply.proofs.law.one_reply.Goals as goal

pub returns : goal.returns
returns c = one-reply
