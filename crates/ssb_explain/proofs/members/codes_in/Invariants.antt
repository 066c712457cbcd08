use Rattle.std.proofs.Common.{◌≡◌}
use Rattle.ssb_explain.specs.Members.{codes_in}
use Rattle.ssb_explain.proofs.members.codes_in.Given as goal

abbrev pub invariant-loop-code : goal.invariant-loop-code
invariant-loop-code l = l.all.items ≡ codes_in l.set l.code
