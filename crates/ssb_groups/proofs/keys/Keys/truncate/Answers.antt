use Rattle.std.proofs.Common.{◌∙◌, ◌-◌, ◌++◌, ap, ap₂, map}
use Rattle.ssb_keys.specs.KeySets.{numbers_in}
use Rattle.ssb_groups.specs.GroupKeys as form
use Rattle.ssb_groups.specs.GroupKeys.{of_cells}
use Rattle.ssb_groups.proofs.GroupKeysFacts.{keys-taken}
use Rattle.ssb_groups.proofs.keys.Keys.truncate.Goals as goal

pub returns-clause-keys : goal.returns-clause-keys
returns-clause-keys c =
    ap₂ (λ ns vs. map form.Number ns ++ map of_cells vs) c.truncate.ensures.first c.truncate-2.ensures.keys
    ∙ keys-taken c.args.count c.saturating_sub.result (numbers_in c.args.self.now.numbers) c.args.self.now.cells.keys (c.saturating_sub.ensures ∙ ap (λ n. c.args.count - n) c.len-numbers.ensures.len)
