use Rattle.std.proofs.Common.{◌≡◌, List, map, ap, ◌∙◌}
use Rattle.ssb_sql.specs.declared.select.Item.{Item}
use Rattle.ssb_trees.proofs.Taken.{all_taken}
use Rattle.ssb_trees.specs.Conditions.{filter_columns, mapped_filter}
use Rattle.ssb_bind.specs.Resolved.{output_of, resolved, resolved_groups}
use Rattle.ssb_bind.specs.declared.resolved.ResolvedName.{ResolvedName}
use Rattle.ssb_bind.proofs.resolved.Resolved.of.Goals as goal

pub mapped_filter-requires : goal.mapped_filter-requires
mapped_filter-requires c = all_taken (filter_columns c.args.select.now.having)

pub mapped_filter-requires-2 : goal.mapped_filter-requires-2
mapped_filter-requires-2 c = all_taken (filter_columns c.args.select.now.condition)

pub returns-in-Ok : goal.returns-in-Ok
returns-in-Ok c =
    let catalog = c.args.scope.catalog.now in
    let from = c.args.scope.from.now in
    let names = c.in_ok-groups.ensures ∙ ap (map (resolved catalog from)) c.as_slice.ensures in
    let groups : c.as_slice-2.result.now ≡ resolved_groups catalog from c.args.select.now = c.as_slice-2.ensures ∙ names in
    let outputs = λ (gs : List ResolvedName) (items : List Item). map (λ item. output_of catalog from gs item.output) items in
    λ j. record {
      outputs = (c.in_ok-outputs.ensures ∙ λ k. outputs (groups k) (c.as_slice-3.ensures k)) j;
      condition = c.in-Ok.ensures j;
      groups = names j;
      having = (c.in_ok-having.ensures ∙ λ k. mapped_filter (output_of catalog from (groups k)) c.args.select.now.having) j;
    }
