use Rattle.std.proofs.Common.{◌≡◌, ◌++◌, drop, map, string_bytes}
use Rattle.ssb_spelling.specs.Conditions.{condition_text, further}
use Rattle.ssb_spelling.proofs.condition.+condition.Given as goal

abbrev pub invariant-put_further-loop-part : goal.invariant-put_further-loop-part
invariant-put_further-loop-part g l =
    string_bytes l.out ++ further l.word (map (condition_text _ (g.S.Spells.text l.names)) (drop l.part-index l.parts)) ≡ string_bytes l.fn.out ++ further l.word (map (condition_text _ (g.S.Spells.text l.names)) l.parts)
