use Rattle.std.proofs.Common.{◌≡◌, ◌++◌, drop}
use Rattle.ssb_plan.proofs.Encodings.{encodings}
use Rattle.ssb_plan.proofs.leaves.listed.Given as goal

abbrev pub invariant-loop-literal : goal.invariant-loop-literal
invariant-loop-literal l = l.numbers.items ++ encodings l.column (drop l.literal-index l.literals) ≡ encodings l.column l.literals
