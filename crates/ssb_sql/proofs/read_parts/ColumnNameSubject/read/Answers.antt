use Rattle.ssb_sql.specs.Forms.{IsColumn}
use Rattle.ssb_sql.specs.ReadParts.{column_at}
use Rattle.ssb_sql.proofs.PartFacts.{sound_column, tame_column}
use Rattle.ssb_sql.proofs.Shapes.{nonempty_is}
use Rattle.ssb_sql.proofs.read_parts.ColumnNameSubject.read.Goals as goal

pub returns : goal.returns
returns c = rw (nonempty_is column_at IsColumn sound_column tame_column c.args.tokens.now) c.column.ensures
