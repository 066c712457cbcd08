use Rattle.std.proofs.Common.{◌≡◌, ◌++◌, drop, map}
use Rattle.ssb_bind.proofs.bind_select.rules_of.Given as goal

abbrev pub invariant-loop-column : goal.invariant-loop-column
invariant-loop-column l = l.rules ++ map (λ c. c.rule) (drop l.column-index l.columns) ≡ map (λ c. c.rule) l.columns
