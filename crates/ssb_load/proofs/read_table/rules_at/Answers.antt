use Rattle.std.proofs.Common.{◌≡◌, ◌<◌, ◌∙◌, ap, length}
use Rattle.ssb_cells.specs.Lawful.{HasOneKey}
use Rattle.ssb_load.specs.Loading.{rules_at}
use Rattle.ssb_load.proofs.OneKey.{HasRules, has-rules, ok-map, rule_list}
use Rattle.ssb_load.proofs.read_table.rules_at.Goals as goal

pub returns : goal.returns
returns c =
    let tables = c.args.catalog.now in
    let seen = c.tables-tables.ensures in
    let found = ok-map c.rules_of.result _ (λ rules. HasRules tables c.args.table rules.items)
    (λ rules are. has-rules tables c.tables-tables.result.now c.args.table c.index-tables-table.result rules.items seen.lawful seen.tables c.requires c.index-tables-table.is (are ∙ ap rule_list c.columns.ensures))
    c.rules_of.ensures in
    record {
      rules = ok-map c.rules_of.result _ (λ rules. rules.items ≡ rules_at tables c.args.table) (λ rules h. h.are) found;
      some = ok-map c.rules_of.result _ (λ rules. 0 < length rules.items) (λ rules h. h.some) found;
      key = ok-map c.rules_of.result _ (λ rules. HasOneKey rules.items) (λ rules h. h.key) found;
    }
