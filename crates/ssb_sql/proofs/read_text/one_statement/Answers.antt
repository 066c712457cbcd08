use Rattle.ssb_sql.proofs.QueryStatement.{one_statement}
use Rattle.ssb_sql.proofs.read_text.one_statement.Goals as goal

pub returns : goal.returns
returns c = one_statement
