use Rattle.std.proofs.Common.{◌∙◌, ◌<◌, get_or, length, map, ap, subst, sym}
use Rattle.ssb_groups.specs.GroupKeys.{keys_in}
use Rattle.ssb_groups.specs.Gathering.{key_at}
use Rattle.ssb_groups.specs.Places.{OpenAll}
use Rattle.ssb_groups.specs.Tallies.{AreAdded, block_cells}
use Rattle.ssb_groups.proofs.PlacedRows.{all-within, placed-long}
use Rattle.ssb_groups.proofs.table.GroupTable.try_block.Goals as goal

-- the places that are found
opened : (c : goal.After-deref) → OpenAll c.args.columns.now (keys_in c.args.self.now.keys) (keys_in c.open_block.new.keys) (map (key_at c.args.columns.now) c.args.block.now) c.open_block.new.room.places.items
opened c = c.in_ok-open_block.ensures.opened

pub join-requires-clause-places : goal.join-requires-clause-places
join-requires-clause-places c = λ k d lt.
    subst (λ ps. get_or ps k d < length (keys_in c.open_block.new.keys)) (sym c.deref.ensures.value)
    (all-within c.args.columns.now (keys_in c.open_block.new.keys) (key_at c.args.columns.now) c.args.block.now c.open_block.new.room.places.items (opened c).placed k d (subst (λ ps. k < length ps) c.deref.ensures.value lt))

pub join-requires-clause-more : goal.join-requires-clause-more
join-requires-clause-more c =
    let long = ap length c.deref.ensures.value ∙ placed-long c.args.columns.now (keys_in c.open_block.new.keys) (key_at c.args.columns.now) c.args.block.now c.open_block.new.room.places.items (opened c).placed in
    subst (λ n. AreAdded c.args.columns.now n (map block_cells c.args.more.now)) (sym long) c.requires.more
