use Rattle.std.proofs.Common.{◌∙◌, Some, refl, sym, ap, arith}
use Rattle.std.proofs.lemmas.Option.{none-some}
use Rattle.ssb_cells.specs.Stored.{count_in}
use Rattle.ssb_cells.proofs.ColumnFacts.{cells-len, null-code, no-null, null-in, own-place, text-in}
use Rattle.ssb_cells.proofs.column.Column.code.Goals as goal

pub get-requires : goal.get-requires
get-requires c = rw (cells-len c.self.inside.stored c.self.inside.nulls c.self.invariant.parts) at (rw (← c.self.view_is) at c.requires.row)

pub get-requires-else-get : goal.get-requires-else-get
get-requires-else-get c =
    let lt = rw (cells-len c.self.inside.stored c.self.inside.nulls c.self.invariant.parts) at (rw (← c.self.view_is) at c.requires.row) in
    let e = c.self.invariant.parts ∙ ap count_in c.texts_in-texts.ensures in
    omega (arith, lt, e)

pub returns-then-get-clause-code : goal.returns-then-get-clause-code
returns-then-get-clause-code c =
    let at = c.get.ensures ∙ ap Some c.if-get.true in
    rw (← c.self.view_is) (sym (null-code c.self.inside.stored c.self.inside.nulls c.args.row c.self.invariant.parts at))

pub returns-then-get-clause-none : goal.returns-then-get-clause-none
returns-then-get-clause-none c =
    let at = c.get.ensures ∙ ap Some c.if-get.true in
    (λ e. rw (← c.self.view_is) (null-in c.self.inside.stored c.self.inside.nulls c.args.row c.self.invariant.parts at), λ e. refl)

pub returns-else-get-clause-code : goal.returns-else-get-clause-code
returns-else-get-clause-code c =
    let texts = c.texts_in-texts.result.now in
    let is = rw c.texts_in-texts.ensures at c.self.invariant.texts in
    let at = c.get.ensures ∙ ap Some c.if-get.false in
    rw (← c.self.view_is, c.texts_in-texts.ensures) (sym (own-place texts c.self.inside.nulls c.args.row c.get-else-get.result is at c.get-else-get.ensures))

pub returns-else-get-clause-none : goal.returns-else-get-clause-none
returns-else-get-clause-none c =
    let texts = c.texts_in-texts.result.now in
    let at = c.get.ensures ∙ ap Some c.if-get.false in
    let found = text-in texts c.self.inside.nulls c.args.row c.get-else-get.result at c.get-else-get.ensures in
    (λ e. absurd (none-some _ (sym e)), λ e. absurd (no-null _ (sym found ∙ (rw (← c.self.view_is, c.texts_in-texts.ensures) at e))))
