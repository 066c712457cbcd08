use Rattle.std.proofs.Common.{◌≡◌, length, take}
use Rattle.ssb_packed.proofs.numbers.add_all.Given as goal

abbrev pub invariant-loop-k : goal.invariant-loop-k
invariant-loop-k l = record {
  added : take l.k l.room ≡ take l.k l.block;
  long : length l.room ≡ length l.block;
}

abbrev pub invariant-loop-k-2 : goal.invariant-loop-k-2
invariant-loop-k-2 l = record {
  added : take l.k l.room ≡ take l.k l.block;
  long : length l.room ≡ length l.block;
}

abbrev pub invariant-loop-k-3 : goal.invariant-loop-k-3
invariant-loop-k-3 l = record {
  added : take l.k l.room ≡ take l.k l.block;
  long : length l.room ≡ length l.block;
}
