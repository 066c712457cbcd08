use Rattle.std.proofs.Common.{inl, refl, subst, sym}
use Rattle.ssb_plan.specs.JobShape.{JobShape}
use Rattle.ssb_keys.specs.KeySets.{numbers_in}
use Rattle.ssb_groups.specs.GroupKeys as form
use Rattle.ssb_groups.specs.GroupKeys.{keys_in}
use Rattle.ssb_groups.specs.Keys.{IsKey, cells_in}
use Rattle.ssb_groups.specs.Places.{AreKeys, Opens}
use Rattle.ssb_groups.proofs.GroupKeysFacts.{cells-found, cells-open}
use Rattle.ssb_groups.proofs.keys.Keys.open_cells.Goals as goal

pub returns-in-Some-clause-opened : goal.returns-in-Some-clause-opened
returns-in-Some-clause-opened c = λ j are is.
    record { placed = cells-found j (numbers_in c.args.self.now.numbers) c.args.self.now.cells.keys c.args.cells.now c.in-Some.place are is c.in-Some.ensures.index; grown = inl refl }

-- the copy has its place
added : (c : goal.In_ok-place) (j : JobShape) → AreKeys j (keys_in c.args.self.now) → IsKey j (form.Cells c.args.cells.now)
    → Opens j (keys_in c.args.self.now) (keys_in (record { numbers = c.args.self.now.numbers; cells = c.insert_full.new.self })) (cells_in j (form.Cells c.args.cells.now)) c.in_ok-place.place × AreKeys j (keys_in (record { numbers = c.args.self.now.numbers; cells = c.insert_full.new.self }))
added c j are is =
    let v = c.in_ok-copied.field-0 in
    let same = c.in_ok-copied.ensures in
    let both = cells-open j (numbers_in c.args.self.now.numbers) c.args.self.now.cells.keys c.insert_full.new.self.keys v c.in_ok-place.place are (subst (λ cs. IsKey j (form.Cells cs)) (sym same) is) c.in_ok-place.ensures.keys c.in_ok-place.ensures.index c.in_ok-place.ensures.stored in
    (subst (λ cs. Opens j (keys_in c.args.self.now) (keys_in (record { numbers = c.args.self.now.numbers; cells = c.insert_full.new.self })) (cells_in j (form.Cells cs)) c.in_ok-place.place) same both.0, both.1)

pub returns-clause-opened : goal.returns-clause-opened
returns-clause-opened c = λ j are is. (added c j are is).0

pub returns-clause-keys : goal.returns-clause-keys
returns-clause-keys c = λ j are is. (added c j are is).1
