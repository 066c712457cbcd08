use Rattle.std.proofs.Common.{◌≡◌, ◌∙◌, ◌<◌, length, get_or, ap, arith, rules, Some, w64, to_z, of_z}
use Rattle.std.specs.Prelude.{slice_get}
use Rattle.std.proofs.lemmas.Option.{slice_get-get_or}
use Rattle.ssb_cells.specs.Cell.{number}
use Rattle.ssb_cells.specs.Stored.{cells_in, count_in}
use Rattle.ssb_cells.proofs.ColumnFacts.{below-at, cells-len, null-in, text-in, value-at}
use Rattle.ssb_cells.proofs.column.Column.get.Goals as goal

pub get-requires : goal.get-requires
get-requires c = rw (cells-len c.self.inside.stored c.self.inside.nulls c.self.invariant.parts) at (rw (← c.self.view_is) at c.requires)

pub returns-then-get : goal.returns-then-get
returns-then-get c = rw (← c.self.view_is) (null-in c.self.inside.stored c.self.inside.nulls c.args.row c.self.invariant.parts (c.get.ensures ∙ ap Some c.if-get.true))

pub get-requires-in-Int : goal.get-requires-in-Int
get-requires-in-Int c =
    let lt = rw (cells-len c.self.inside.stored c.self.inside.nulls c.self.invariant.parts) at (rw (← c.self.view_is) at c.requires) in
    let e = c.self.invariant.parts ∙ ap count_in c.in-Int.is in
    omega (arith, lt, e)

pub get-requires-in-Text : goal.get-requires-in-Text
get-requires-in-Text c =
    let lt = rw (cells-len c.self.inside.stored c.self.inside.nulls c.self.invariant.parts) at (rw (← c.self.view_is) at c.requires) in
    let e = c.self.invariant.parts ∙ ap count_in c.in-Text.is in
    let is = rw c.in-Text.is at c.self.invariant.texts in
    let within : c.args.row < length c.in-Text.texts.codes = omega (arith, lt, e) in
    record { row = within; code = below-at (length c.in-Text.texts.dictionary) c.self.inside.nulls c.in-Text.texts.codes c.args.row is.1 (c.get.ensures ∙ ap Some c.if-get.false) within }

pub returns-in-Int : goal.returns-in-Int
returns-in-Int c =
    let n = c.get-in-Int.result in
    let same : to_z w64 (of_z w64 n) ≡ n = search rules in
    let at = c.get.ensures ∙ ap Some c.if-get.false in
    rw (← c.self.view_is, same) (ap (λ s. slice_get (cells_in s c.self.inside.nulls) c.args.row) c.in-Int.is ∙ value-at number c.self.inside.nulls c.in-Int.numbers c.args.row n at c.get-in-Int.ensures)

pub returns-in-Text : goal.returns-in-Text
returns-in-Text c =
    let codes = c.in-Text.texts.codes in
    let at = c.get.ensures ∙ ap Some c.if-get.false in
    let lt = rw (cells-len c.self.inside.stored c.self.inside.nulls c.self.invariant.parts) at (rw (← c.self.view_is) at c.requires) in
    let e = c.self.invariant.parts ∙ ap count_in c.in-Text.is in
    let found = slice_get-get_or codes c.args.row 0 (omega (arith, lt, e)) in
    rw (← c.self.view_is, c.get-in-Text.ensures) (ap (λ s. slice_get (cells_in s c.self.inside.nulls) c.args.row) c.in-Text.is ∙ text-in c.in-Text.texts c.self.inside.nulls c.args.row (get_or codes c.args.row 0) at found)
