use Rattle.std.proofs.Common.{◌≡◌, ◌<◌, ◌++◌, map, take}
use Rattle.ssb_packed.specs.Lent.{kept_code}
use Rattle.ssb_packed.specs.Recoded.{recoded}
use Rattle.ssb_packed.proofs.codes.Codes.append.Given as goal

abbrev pub invariant-loop-i : goal.invariant-loop-i
invariant-loop-i l = record {
  added : map kept_code l.self-inside.numbers ++ map kept_code l.block.items ≡ l.fn.self ++ map (recoded l.table) (take l.i l.other);
  room : 0 < l.block.cap;
}
