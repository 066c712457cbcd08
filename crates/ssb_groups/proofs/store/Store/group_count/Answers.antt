use Rattle.std.proofs.Common.{◌∙◌, ap, length, sym}
use Rattle.ssb_groups.specs.GroupKeys.{keys_in}
use Rattle.ssb_groups.specs.Stands.{GroupMap}
use Rattle.ssb_groups.specs.Tallies.{lists}
use Rattle.ssb_groups.proofs.GroupFacts.{entries-long}
use Rattle.ssb_groups.proofs.store.Store.group_count.Goals as goal

pub returns : goal.returns
returns c =
    let i = c.self.inside in
    c.len.ensures ∙ sym (entries-long i.job.value (lists i.table.tallies.items) 0 (keys_in i.table.keys)) ∙ ap (λ (x : GroupMap). length x.entries) c.self.view_is
