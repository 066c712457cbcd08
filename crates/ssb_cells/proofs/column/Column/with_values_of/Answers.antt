use Rattle.std.proofs.Common.{◌∙◌, length, length-append, refl, ap, arith}
use Rattle.ssb_cells.proofs.ColumnFacts.{cells-len}
use Rattle.ssb_cells.proofs.JoinFacts.{joins, room-for}
use Rattle.ssb_cells.proofs.column.Column.with_values_of.Goals as goal

pub append-requires : goal.append-requires
append-requires c =
    let own = cells-len c.self.inside.stored c.self.inside.nulls c.self.invariant.parts in
    let others = cells-len c.other.inside.stored c.other.inside.nulls c.other.invariant.parts in
    let room = rw (← c.self.view_is, ← c.other.view_is) at c.requires.room in
    omega (arith, own, others, room)

pub append-requires-2-clause-room : goal.append-requires-2-clause-room
append-requires-2-clause-room c =
    let own = cells-len c.self.inside.stored c.self.inside.nulls c.self.invariant.parts in
    let others = cells-len c.other.inside.stored c.other.inside.nulls c.other.invariant.parts in
    let room = rw (← c.self.view_is, ← c.other.view_is) at c.requires.room in
    room-for c.self.inside.stored c.other.inside.stored c.self.inside.nulls c.other.inside.nulls c.self.invariant.parts c.other.invariant.parts c.self.invariant.texts c.other.invariant.texts (omega (arith, own, others, room))

pub invariant_of-result : goal.invariant_of-result
invariant_of-result c =
    let own = cells-len c.self.inside.stored c.self.inside.nulls c.self.invariant.parts in
    let others = cells-len c.other.inside.stored c.other.inside.nulls c.other.invariant.parts in
    let room = rw (← c.self.view_is, ← c.other.view_is) at c.requires.room in
    let long = ap length c.in_ok-append.ensures ∙ length-append c.self.inside.nulls c.other.inside.nulls in
    let parts = c.self.invariant.parts in
    let other_parts = c.other.invariant.parts in
    let j = joins c.self.inside.stored c.other.inside.stored c.append-2.new.stored c.self.inside.nulls c.other.inside.nulls parts c.self.invariant.texts c.other.invariant.texts c.in_ok-append-2.ensures in
    let count = j.count in
    record { parts = omega (arith, long, parts, other_parts, count); room = omega (arith, long, own, others, room); texts = rw c.in_ok-append.ensures j.texts }

pub returns : goal.returns
returns c =
    let j = joins c.self.inside.stored c.other.inside.stored c.append-2.new.stored c.self.inside.nulls c.other.inside.nulls c.self.invariant.parts c.self.invariant.texts c.other.invariant.texts c.in_ok-append-2.ensures in
    rw (← c.self.view_is, ← c.other.view_is, c.in_ok-append.ensures, j.kind, j.cells) refl
