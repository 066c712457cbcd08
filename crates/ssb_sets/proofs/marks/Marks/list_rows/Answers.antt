use Rattle.std.proofs.Common.{◌∙◌, ◌-◌}
use Rattle.ssb_sets.proofs.MarkRows.{rows-all}
use Rattle.ssb_sets.proofs.marks.Marks.list_rows.Goals as goal

pub returns : goal.returns
returns c = λ p marked. c.in_ok-list_marked.ensures ∙ rows-all p c.args.self.now.words c.args.from (c.args.end - c.args.from) _ c.words_of.ensures.enough marked
