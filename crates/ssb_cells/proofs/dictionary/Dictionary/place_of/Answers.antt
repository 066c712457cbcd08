use Rattle.std.proofs.Common.{◌∙◌, sym}
use Rattle.ssb_cells.proofs.CodeFacts.{place-new}
use Rattle.ssb_cells.proofs.dictionary.Dictionary.place_of.Goals as goal

pub returns-clause-place : goal.returns-clause-place
returns-clause-place c = c.len-place.ensures ∙ sym (place-new c.args.self.now c.args.letters.now (sym c.in_default.ensures.found))
