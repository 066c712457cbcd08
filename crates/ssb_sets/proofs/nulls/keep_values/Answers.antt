use Rattle.std.proofs.Common.{◌∙◌, rules, sym}
use Rattle.std.proofs.lemmas.Fn.{filter_same}
use Rattle.ssb_sets.proofs.NullFacts.{filter-no_flags, no-words}
use Rattle.ssb_sets.proofs.nulls.keep_values.Goals as goal

pub returns-then-is_empty : goal.returns-then-is_empty
returns-then-is_empty c = sym (filter-no_flags c.args.nulls.now c.args.rows.now.items (no-words c.args.nulls.now (sym c.is_empty.ensures ∙ c.if-is_empty.true)))

pub returns : goal.returns
returns c = filter_same _ _ _ (λ x b f' k. search rules) _ _ c.retain.ensures.filtered
