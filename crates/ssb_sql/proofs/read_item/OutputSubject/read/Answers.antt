use Rattle.ssb_sql.specs.Grammar.{IsOutput}
use Rattle.ssb_sql.specs.ReadSelects.{output_at}
use Rattle.ssb_sql.proofs.ItemFacts.{sound_output, tame_output}
use Rattle.ssb_sql.proofs.Shapes.{nonempty_is}
use Rattle.ssb_sql.proofs.read_item.OutputSubject.read.Goals as goal

pub returns : goal.returns
returns c = rw (nonempty_is (output_at c.args.depth) IsOutput (sound_output c.args.depth) tame_output c.args.tokens.now) c.output.ensures
