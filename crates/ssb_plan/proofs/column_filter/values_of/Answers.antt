use Rattle.std.proofs.Common.{◌∙◌, sym}
use Rattle.ssb_plan.proofs.ColumnRows.{codes-stand}
use Rattle.ssb_plan.proofs.column_filter.values_of.Goals as goal

pub returns-in-Text-clause-values : goal.returns-in-Text-clause-values
returns-in-Text-clause-values c = codes-stand c.args.column.now _ (sym c.kind.ensures ∙ c.in-Text.is) c.codes.ensures
