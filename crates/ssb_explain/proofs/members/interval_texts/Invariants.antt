use Rattle.std.proofs.Common.{◌≡◌, map, string_bytes, take}
use Rattle.ssb_explain.specs.Members.{interval_text}
use Rattle.ssb_explain.proofs.members.interval_texts.Given as goal

abbrev pub invariant-loop-interval : goal.invariant-loop-interval
invariant-loop-interval l = map string_bytes l.texts.items ≡ map interval_text (take l.interval-index l.intervals)
