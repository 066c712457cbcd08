use Rattle.std.proofs.Common.{◌*◌, ◌+◌, not}
use Rattle.ssb_packed.specs.Lent.{flag_at}
use Rattle.ssb_sets.proofs.MarkFacts.{Narrowed}
use Rattle.ssb_sets.proofs.marks.clear_flagged.Given as goal

abbrev pub invariant-loop-at : goal.invariant-loop-at
invariant-loop-at l = Narrowed (λ i. not (flag_at l.flags (l.from + i))) l.initial.words l.words (64 * l.at)
