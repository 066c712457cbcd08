use Rattle.std.proofs.Common.{◌≡◌, drop, map}
use Rattle.std.specs.List.{list_all}
use Rattle.ssb_trees.specs.Types.{is_int_type, type_of, type_of_step}
use Rattle.ssb_trees.proofs.types.+expr.Given as goal

abbrev pub invariant-are_number_steps-loop-step : goal.invariant-are_number_steps-loop-step
invariant-are_number_steps-loop-step g l = list_all is_int_type (map (type_of_step (g.K.Kinds.kind l.kinds)) (drop l.step-index l.steps)) ≡ list_all is_int_type (map (type_of_step (g.K.Kinds.kind l.kinds)) l.steps)

abbrev pub invariant-are_number_factors-loop-factor : goal.invariant-are_number_factors-loop-factor
invariant-are_number_factors-loop-factor g l = list_all is_int_type (map (type_of (g.K.Kinds.kind l.kinds)) (drop l.factor-index l.factors)) ≡ list_all is_int_type (map (type_of (g.K.Kinds.kind l.kinds)) l.factors)
