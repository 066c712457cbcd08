use Rattle.std.proofs.Common.{◌≡◌, ◌++◌, take, drop}
use Rattle.ssb_records.proofs.pieces.slide.Given as goal

abbrev pub invariant-loop-i : goal.invariant-loop-i
invariant-loop-i l = l.buffer ≡ take l.i (drop l.from l.fn.buffer) ++ drop l.i l.fn.buffer
