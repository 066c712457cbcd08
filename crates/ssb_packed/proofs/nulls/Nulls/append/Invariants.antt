use Rattle.std.proofs.Common.{◌≡◌, ◌++◌, take}
use Rattle.ssb_packed.proofs.nulls.Nulls.append.Given as goal

abbrev pub invariant-loop-place : goal.invariant-loop-place
invariant-loop-place l = l.self ≡ l.fn.self ++ take l.place l.other
