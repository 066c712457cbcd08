use Rattle.std.proofs.Common.{◌∙◌, ap, rules, sym}
use Rattle.std.specs.Bool.{◌==◌}
use Rattle.std.proofs.lemmas.Fn.{filter_same}
use Rattle.ssb_conditions.specs.Met.{all_true}
use Rattle.ssb_plan.specs.Only.{alone_at}
use Rattle.ssb_conditions.specs.Rows.{tables_at, value}
use Rattle.ssb_plan.proofs.TableRows.{filter-others, no-others}
use Rattle.ssb_plan.proofs.table_filter.TableFilter.keep_others.Goals as goal

pub returns-then-is_empty : goal.returns-then-is_empty
returns-then-is_empty c = filter-others (λ r. value (tables_at c.args.local.tables.now c.args.local.from.now) (alone_at c.args.local.place r)) c.args.self.now.others.items (no-others c.args.self.now.others.items (ap (λ n. n == 0) (sym c.args.self.now.others.ok.0) ∙ sym c.is_empty.ensures ∙ c.if-is_empty.true)) c.args.rows.now.items

pub returns : goal.returns
returns c = filter_same _ _ _ (λ x b f' k. (search rules ∙ ap (λ r. all_true (value (tables_at c.args.local.tables.now c.args.local.from.now) (alone_at c.args.local.place r)) c.args.self.now.others.items) k.shows, search rules)) _ _ c.retain.ensures.filtered
