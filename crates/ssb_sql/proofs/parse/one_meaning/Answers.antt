use Rattle.ssb_sql.proofs.SelectComplete.{one_meaning}
use Rattle.ssb_sql.proofs.parse.one_meaning.Goals as goal

pub returns : goal.returns
returns c = one_meaning
