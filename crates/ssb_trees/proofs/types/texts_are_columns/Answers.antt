use Rattle.ssb_trees.proofs.TextColumns.{text_is_column}
use Rattle.ssb_trees.proofs.types.texts_are_columns.Goals as goal

pub returns : goal.returns
returns g c = λ kind e h. text_is_column _ kind e h
