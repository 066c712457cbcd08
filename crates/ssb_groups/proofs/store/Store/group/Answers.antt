use Rattle.std.proofs.Common.{◌∙◌, ◌<◌, Some, option_map, length, slice_get, ap, subst, sym, arith}
use Rattle.std.proofs.lemmas.List.{length-map}
use Rattle.ssb_groups.specs.GroupKeys.{keys_in, lent}
use Rattle.ssb_groups.specs.Keys.{IsKey, cells_in}
use Rattle.ssb_groups.specs.Stands.{GroupMap}
use Rattle.ssb_groups.specs.Tallies.{AreTotals, items, lists, totals_at, totals_in}
use Rattle.ssb_groups.proofs.GroupFacts.{entries-long, entry-at, get-none, totals-kept}
use Rattle.ssb_groups.proofs.PlaceFacts.{key-at}
use Rattle.ssb_groups.proofs.store.Store.group.Goals as goal

pub unreachable-requires : goal.unreachable-requires
unreachable-requires c =
    let i = c.self.inside in
    let past = get-none (keys_in i.table.keys) c.args.at (sym c.get.ensures ∙ ap (option_map lent) c.in_default.is) in
    let below : c.args.at < length c.args.self.now.entries = c.requires in
    let long = ap (λ (x : GroupMap). length x.entries) (sym c.self.view_is) ∙ entries-long i.job.value (lists i.table.tallies.items) 0 (keys_in i.table.keys) in
    omega (arith, past, below, long)

pub returns-clause-key : goal.returns-clause-key
returns-clause-key c =
    let i = c.self.inside in
    subst (λ (x : GroupMap). IsKey x.job (lent c.in-Some.key)) c.self.view_is (key-at i.job.value (keys_in i.table.keys) c.args.at (lent c.in-Some.key) c.self.invariant.1.keys (sym c.in-Some.ensures))

pub returns-clause-many : goal.returns-clause-many
returns-clause-many c =
    let i = c.self.inside in
    ap length c.as_slice.ensures.value ∙ sym (length-map i.table.tallies.items items) ∙ c.self.invariant.1.are.many ∙ ap (λ (x : GroupMap). length x.job.query.aggregates) c.self.view_is

pub returns-clause-totals : goal.returns-clause-totals
returns-clause-totals c =
    let i = c.self.inside in
    subst (λ ts. AreTotals c.args.self.now.job (totals_at (lists ts) c.args.at)) (sym c.as_slice.ensures.value)
    (subst (λ (x : GroupMap). AreTotals x.job (totals_at (lists i.table.tallies.items) c.args.at)) c.self.view_is (totals-kept i.job.value (lists i.table.tallies.items) (length (keys_in i.table.keys)) c.args.at c.self.invariant.1.are))

pub returns-clause-entry : goal.returns-clause-entry
returns-clause-entry c =
    let i = c.self.inside in
    ap (λ (x : GroupMap). slice_get x.entries c.args.at) (sym c.self.view_is)
    ∙ entry-at i.job.value (lists i.table.tallies.items) (keys_in i.table.keys) c.args.at (lent c.in-Some.key) (sym c.in-Some.ensures)
    ∙ ap (λ (x : GroupMap). Some (cells_in x.job (lent c.in-Some.key), totals_in x.job (totals_at (lists i.table.tallies.items) c.args.at))) c.self.view_is
    ∙ ap (λ ts. Some (cells_in c.args.self.now.job (lent c.in-Some.key), totals_in c.args.self.now.job (totals_at (lists ts) c.args.at))) (sym c.as_slice.ensures.value)
