use Rattle.std.proofs.Common.{◌∙◌, string_bytes, sym}
use Rattle.ssb_cells.proofs.SpellingFacts.{any-spelt, place-spelt}
use Rattle.ssb_cells.proofs.dictionary.Dictionary.find.Goals as goal

pub returns-in-None-clause-place : goal.returns-in-None-clause-place
returns-in-None-clause-place c = rw (← c.self.view_is) (c.in-None.ensures.index ∙ sym (place-spelt string_bytes c.args.letters.now c.self.inside.texts.keys))

pub returns-in-None-clause-found : goal.returns-in-None-clause-found
returns-in-None-clause-found c = rw (← c.self.view_is) (c.in-None.ensures.found ∙ sym (any-spelt string_bytes c.args.letters.now c.self.inside.texts.keys))

pub returns-in-Some-clause-place : goal.returns-in-Some-clause-place
returns-in-Some-clause-place c = rw (← c.self.view_is) (c.in-Some.ensures.index ∙ sym (place-spelt string_bytes c.args.letters.now c.self.inside.texts.keys))

pub returns-in-Some-clause-found : goal.returns-in-Some-clause-found
returns-in-Some-clause-found c = rw (← c.self.view_is) (c.in-Some.ensures.found ∙ sym (any-spelt string_bytes c.args.letters.now c.self.inside.texts.keys))
