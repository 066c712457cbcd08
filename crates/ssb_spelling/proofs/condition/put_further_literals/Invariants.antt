use Rattle.std.proofs.Common.{◌≡◌, ◌++◌, codes, drop, map, string_bytes}
use Rattle.ssb_spelling.specs.Conditions.{further, literal_text}
use Rattle.ssb_spelling.proofs.condition.put_further_literals.Given as goal

abbrev pub invariant-loop-literal : goal.invariant-loop-literal
invariant-loop-literal l = string_bytes l.out ++ further (codes ", ") (map literal_text (drop l.literal-index l.literals)) ≡ string_bytes l.initial.out ++ further (codes ", ") (map literal_text l.literals)
