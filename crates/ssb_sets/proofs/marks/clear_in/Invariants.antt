use Rattle.std.proofs.Common.{◌*◌, get_or, map, pos}
use Rattle.ssb_sets.specs.Marks.{is_between}
use Rattle.ssb_sets.proofs.MarkFacts.{Narrowed}
use Rattle.ssb_sets.proofs.marks.clear_in.Given as goal

abbrev pub invariant-loop-at : goal.invariant-loop-at
invariant-loop-at g l = Narrowed (λ i. is_between l.low l.high (get_or (map g.T.Number.wide l.numbers) i (pos 0))) l.initial.words l.words (64 * l.at)
