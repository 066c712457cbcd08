use Rattle.std.proofs.Common.{get_or, map, pos}
use Rattle.ssb_sets.specs.Marks.{is_between}
use Rattle.ssb_sets.proofs.MarkFacts.{Picked}
use Rattle.ssb_sets.proofs.marks.few_between.Given as goal

abbrev pub invariant-loop-i : goal.invariant-loop-i
invariant-loop-i g l = Picked (λ k. is_between l.low l.high (get_or (map g.T.Number.wide l.numbers) k (pos 0))) l.word l.i
