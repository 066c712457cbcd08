use Rattle.std.proofs.Common.{◌∙◌, ◌<◌, get_or, length, map, ap, subst, sym}
use Rattle.ssb_groups.specs.GroupKeys.{keys_in}
use Rattle.ssb_groups.specs.Keys.{cells_in}
use Rattle.ssb_groups.specs.Places.{OpenAll}
use Rattle.ssb_groups.specs.Tallies.{AreAdded, AreTallies, lists}
use Rattle.ssb_groups.proofs.PlacedRows.{all-within, placed-long}
use Rattle.ssb_groups.proofs.TallyFacts.{stood, tallies-added}
use Rattle.ssb_groups.proofs.table.GroupTable.try_groups.Goals as goal

-- the places that are found
opened : (c : goal.After-deref-2) → OpenAll c.args.columns.now (keys_in c.args.self.now.keys) (keys_in c.open_keys.new.keys) (map (cells_in c.args.columns.now) (keys_in c.args.other.now.keys)) c.open_keys.new.room.places.items
opened c = c.in_ok-open_keys.ensures.opened

pub join-requires-clause-places : goal.join-requires-clause-places
join-requires-clause-places c = λ k d lt.
    subst (λ ps. get_or ps k d < length (keys_in c.open_keys.new.keys)) (sym c.deref.ensures.value)
    (all-within c.args.columns.now (keys_in c.open_keys.new.keys) (cells_in c.args.columns.now) (keys_in c.args.other.now.keys) c.open_keys.new.room.places.items (opened c).placed k d (subst (λ ps. k < length ps) c.deref.ensures.value lt))

pub join-requires-clause-more : goal.join-requires-clause-more
join-requires-clause-more c =
    let long = ap length c.deref.ensures.value ∙ placed-long c.args.columns.now (keys_in c.open_keys.new.keys) (cells_in c.args.columns.now) (keys_in c.args.other.now.keys) c.open_keys.new.room.places.items (opened c).placed in
    subst (AreAdded c.args.columns.now (length c.deref.result.now)) (stood c.deref-2.result.now)
    (tallies-added c.args.columns.now (length c.deref.result.now) (lists c.deref-2.result.now)
    (subst (λ ts. AreTallies c.args.columns.now (length c.deref.result.now) (lists ts)) (sym c.deref-2.ensures.value) (subst (λ n. AreTallies c.args.columns.now n (lists c.args.other.now.tallies.items)) (sym long) c.requires.other.are)))
