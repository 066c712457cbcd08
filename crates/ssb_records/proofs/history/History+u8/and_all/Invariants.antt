use Rattle.std.proofs.Common.{◌≡◌, ◌++◌, take}
use Rattle.ssb_records.proofs.history.History+u8.and_all.Given as goal

abbrev pub invariant-loop-byte : goal.invariant-loop-byte
invariant-loop-byte l = l.noted.items ≡ l.fn.self.items ++ take l.byte-index l.bytes
