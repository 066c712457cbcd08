use Rattle.std.proofs.Common.{◌≡◌, drop, fold, map}
use Rattle.ssb_groups.specs.Outcomes.{outcome_of}
use Rattle.ssb_groups.specs.Refs.{ref_value}
use Rattle.ssb_groups.specs.Value.{add_step, number_of, product, step_number, times}
use Rattle.ssb_groups.proofs.evaluate.+expr.Given as goal

abbrev pub invariant-chain-loop-step : goal.invariant-chain-loop-step
invariant-chain-loop-step l =
    fold add_step (outcome_of l.so_far) (map (step_number (ref_value l.job l.row)) (drop l.step-index l.steps)) ≡ fold add_step (outcome_of l.fn.first) (map (step_number (ref_value l.job l.row)) l.steps)

abbrev pub invariant-product-loop-factor : goal.invariant-product-loop-factor
invariant-product-loop-factor l =
    fold times (outcome_of l.so_far) (map (number_of (ref_value l.job l.row)) (drop l.factor-index l.factors)) ≡ product (map (number_of (ref_value l.job l.row)) l.factors)
