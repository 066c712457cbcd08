use Rattle.std.proofs.Common.{◌∙◌, ◌∷◌, [], length, length-append, refl, ap, arith}
use Rattle.ssb_cells.specs.Building.{stored_in}
use Rattle.ssb_cells.specs.Stored.{count_in}
use Rattle.ssb_cells.proofs.ColumnFacts.{cells-len, count-more, kind-stays, push-in, room-in, spelt-more}
use Rattle.ssb_cells.proofs.builder.ColumnBuilder.push.Goals as goal

pub push-requires : goal.push-requires
push-requires c = rw (cells-len (stored_in c.self.inside.storing) c.self.inside.nulls c.self.invariant.parts) at (rw (← c.self.view_is) at c.requires.room)

pub store-requires : goal.store-requires
store-requires c =
    let room = rw (cells-len (stored_in c.self.inside.storing) c.self.inside.nulls c.self.invariant.parts) at (rw (← c.self.view_is) at c.requires.room) in
    room-in (stored_in c.self.inside.storing) c.self.inside.nulls c.self.invariant.parts c.self.invariant.texts room

pub invariant_of-self-in-Ok : goal.invariant_of-self-in-Ok
invariant_of-self-in-Ok c =
    let room = rw (cells-len (stored_in c.self.inside.storing) c.self.inside.nulls c.self.invariant.parts) at (rw (← c.self.view_is) at c.requires.room) in
    let long = ap length c.in_ok-push.ensures.ok ∙ length-append c.self.inside.nulls (c.is_null.result ∷ []) in
    let count = ap count_in c.in-Ok.ensures.ok ∙ count-more (stored_in c.self.inside.storing) c.args.value in
    let parts = c.self.invariant.parts in
    let typed = rw (← c.self.view_is) at c.requires.of_type in
    let texts = spelt-more (stored_in c.self.inside.storing) c.self.inside.nulls c.args.value parts c.self.invariant.texts typed in
    record { parts = omega (arith, long, count, parts); room = omega (arith, long, room); texts = rw (c.in-Ok.ensures.ok, c.in_ok-push.ensures.ok, c.is_null.ensures) texts }

pub returns-in-Ok-clause-ok : goal.returns-in-Ok-clause-ok
returns-in-Ok-clause-ok c =
    let typed = rw (← c.self.view_is) at c.requires.of_type in
    let values = push-in (stored_in c.self.inside.storing) c.self.inside.nulls c.args.value c.self.invariant.parts c.self.invariant.texts typed in
    rw (← c.self.view_is, c.in-Ok.ensures.ok, c.in_ok-push.ensures.ok, c.is_null.ensures, kind-stays (stored_in c.self.inside.storing) c.args.value, values) refl
