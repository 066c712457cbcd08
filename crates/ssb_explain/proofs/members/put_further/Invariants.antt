use Rattle.std.proofs.Common.{◌≡◌, ◌++◌, codes, drop, map, string_bytes}
use Rattle.ssb_spelling.specs.Conditions.{further}
use Rattle.ssb_explain.proofs.members.put_further.Given as goal

abbrev pub invariant-loop-text : goal.invariant-loop-text
invariant-loop-text l = string_bytes l.out ++ further (codes ", ") (map string_bytes (drop l.text-index l.texts)) ≡ string_bytes l.initial.out ++ further (codes ", ") (map string_bytes l.texts)
