use Rattle.std.proofs.Common.{◌∙◌, bytes_eq, sym, ap}
use Rattle.std.specs.List.{list_any}
use Rattle.ssb_cells.specs.Stored.{cells_in}
use Rattle.ssb_cells.specs.declared.column.Stored.TheVariants as stored
use Rattle.ssb_cells.proofs.CodeFacts.{among}
use Rattle.ssb_cells.proofs.column.Column.find.Goals as goal

pub returns-clause-found : goal.returns-clause-found
returns-clause-found c =
    let texts = c.texts_in.result.now in
    let is = rw c.texts_in.ensures at c.self.invariant.texts in
    let same = c.find.ensures.found ∙ ap (list_any (bytes_eq c.args.letters.now)) is.0 in
    let p = among (cells_in (stored.Text texts) c.self.inside.nulls) c.args.letters.now in
    rw (← c.self.view_is, c.texts_in.ensures) (λ some. p.0 (sym same ∙ some), λ there. same ∙ p.1 there)
