use Rattle.std.proofs.Common.{◌≡◌, ◌++◌, take}
use Rattle.ssb_packed.proofs.numbers.Numbers.append.Given as goal

abbrev pub invariant-loop-i : goal.invariant-loop-i
invariant-loop-i l = l.self ≡ l.fn.self ++ take l.i l.other
