use Rattle.std.proofs.Common.{◌∙◌, slice_get, sym, ap}
use Rattle.ssb_rows.proofs.KeptFacts.{first-is, none-first}
use Rattle.ssb_rows.proofs.row.AnswerRow.split_first.Goals as goal

pub returns-in-None-clause-none : goal.returns-in-None-clause-none
returns-in-None-clause-none c = none-first _ c.in-None.ensures

pub returns-in-Some-clause-some : goal.returns-in-Some-clause-some
returns-in-Some-clause-some c = sym c.self.view_is ∙ first-is _ _ _ _ c.self.invariant.1 (c.in-Some.ensures ∙ ap (λ xs. slice_get xs 0) (sym c.self.view_is))
