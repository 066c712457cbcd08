use Rattle.std.proofs.Common.{◌∙◌, ◌-◌, not, sym}
use Rattle.ssb_packed.specs.Lent.{flag_at}
use Rattle.ssb_sets.proofs.MarkFacts.{marks-cleared, marks-unflagged}
use Rattle.ssb_sets.proofs.NullFacts.{no-words}
use Rattle.ssb_sets.proofs.marks.Marks.clear_nulls.Goals as goal

pub returns-then-is_empty : goal.returns-then-is_empty
returns-then-is_empty c = λ p marked. marks-unflagged p c.args.from (c.args.end - c.args.from) c.args.nulls.now c.args.self.now.words (no-words c.args.nulls.now (sym c.is_empty.ensures ∙ c.if-is_empty.true)) marked

pub returns : goal.returns
returns c = λ p marked. marks-cleared p (λ r. not (flag_at c.args.nulls.now r)) (λ r. not (flag_at c.args.nulls.now r)) c.args.from (c.args.end - c.args.from) c.args.self.now.words c.clear_flagged.new.words _ c.words_of.ensures.enough marked c.clear_flagged.ensures.each c.clear_flagged.ensures.same
