use Rattle.std.proofs.Common.{sym}
use Rattle.ssb_cells.proofs.CodeFacts.{place-new}
use Rattle.ssb_cells.proofs.builder.TextsBuilder.push.Goals as goal

pub returns-in-None-clause-codes : goal.returns-in-None-clause-codes
returns-in-None-clause-codes c = rw (c.in-Text.is, place-new c.args.self.now.dictionary c.in-Text.letters.now (sym c.in-None.ensures.found)) (rw c.in-None.ensures.same at c.push_new.ensures.codes)
