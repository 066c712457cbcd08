use Rattle.ssb_show.specs.Pieces.{line_of}
use Rattle.ssb_show.proofs.Lines.{any-found, any-more}
use Rattle.ssb_show.proofs.fields.Fields.has_letters_behind.Goals as goal

pub returns-then-has_letters_at : goal.returns-then-has_letters_at
returns-then-has_letters_at c = any-found (line_of c.args.self.now) c.loop-at.at c.has_letters_at.result _ c.has_letters_at.ensures c.if-has_letters_at.true c.loop-at.invariant

pub loop-at-preserved : goal.loop-at-preserved
loop-at-preserved c = any-more (line_of c.args.self.now) c.loop-at.at c.has_letters_at.result _ c.has_letters_at.ensures c.if-has_letters_at.false c.loop-at.invariant
