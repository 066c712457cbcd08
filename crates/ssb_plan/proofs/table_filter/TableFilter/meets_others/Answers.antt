use Rattle.std.proofs.Common.{◌∙◌}
use Rattle.ssb_conditions.specs.Met.{all_true}
use Rattle.ssb_conditions.specs.Rows.{tables_at, value}
use Rattle.ssb_plan.proofs.table_filter.TableFilter.meets_others.Goals as goal

pub returns : goal.returns
returns c = c.all_true.ensures ∙ (λ j. all_true (value (tables_at c.args.local.tables.now c.args.local.from.now) (c.alone-combination.ensures j)) (c.deref.ensures.value j))
