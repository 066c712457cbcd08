use Rattle.ssb_sql.proofs.SelectComplete.{one_meaning}
use Rattle.ssb_sql.proofs.SpellsFacts.{one-select}
use Rattle.ssb_sql.proofs.read_text.one_select.Goals as goal

pub returns : goal.returns
returns c = one-select one_meaning
