use Rattle.std.proofs.Common.{rules, ◌∙◌, refl, ap}
use Rattle.std.proofs.lemmas.List.{length-map}
use Rattle.ssb_groups.specs.GroupKeys.{keys_in}
use Rattle.ssb_groups.specs.Tallies.{entries_of, items, lists}
use Rattle.ssb_groups.proofs.StandsFacts.{Stands-nothing}
use Rattle.ssb_groups.proofs.StoreFacts.{empty-table}
use Rattle.ssb_groups.proofs.store.Store.new.Goals as goal

pub returns-clause-stands : goal.returns-clause-stands
returns-clause-stands c = Stands-nothing _ refl refl (ap (λ ks. entries_of c.of.result.value ks (lists c.in_ok-new.field-0.tallies.items)) c.in_ok-new.ensures.none)

pub invariant_of-result : goal.invariant_of-result
invariant_of-result c =
    let t = c.in_ok-new.field-0 in
    let is = c.in_ok-new.ensures in
    (is.unique, empty-table c.of.result.value (keys_in t.keys) (lists t.tallies.items) is.none (length-map t.tallies.items items ∙ is.many ∙ search rules) is.empty)
