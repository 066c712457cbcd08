use Rattle.std.proofs.Common.{◌≡◌, ◌++◌, drop, map}
use Rattle.ssb_plan.specs.Inputs.{key_span}
use Rattle.ssb_plan.proofs.spans.spans_of.Given as goal

abbrev pub invariant-loop-key : goal.invariant-loop-key
invariant-loop-key l = l.spans.items ++ map (key_span l.tables) (drop l.key-index l.keys) ≡ map (key_span l.tables) l.keys
