use Rattle.std.proofs.Common.{◌≡◌, drop, map}
use Rattle.std.specs.List.{list_any}
use Rattle.ssb_trees.specs.Types.{is_mixed}
use Rattle.ssb_trees.proofs.types.+condition.Given as goal

abbrev pub invariant-has_mixed_part-loop-part : goal.invariant-has_mixed_part-loop-part
invariant-has_mixed_part-loop-part g l = list_any (λ part. part) (map (is_mixed (g.K.Kinds.kind l.kinds)) (drop l.part-index l.parts)) ≡ list_any (λ part. part) (map (is_mixed (g.K.Kinds.kind l.kinds)) l.parts)
