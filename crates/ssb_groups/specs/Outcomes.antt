-- What a contract sees of the number of an expression.
-- For the contracts inside this crate.
use Rattle.std.specs.Prelude.{ℤ, ◌+ℤ◌, ◌-ℤ◌, ◌*ℤ◌, Option, None, Some, List}
use Rattle.ssb_cells.specs.Cell.{Cell, null, number}
use Rattle.ssb_groups.specs.Keys.{spelt_cell}
use Rattle.ssb_groups.specs.Value.{Outcome, over, known}
use Rattle.ssb_keys.specs.declared.kept.Kept.{Kept}
use Rattle.ssb_groups.specs.declared.outcome.Operation.{Operation}
use Rattle.ssb_groups.specs.declared.outcome.Operation.TheVariants as operation
use Rattle.ssb_groups.specs.declared.outcome.Outcome.{Outcome as Value}
use Rattle.ssb_groups.specs.declared.outcome.Outcome.TheVariants as is

abbrev pub outcome_of : Value → Outcome
outcome_of is.Over = over
outcome_of is.Null = known null
outcome_of (is.Number n) = known (number n)

-- an operation in whole numbers of any size
abbrev pub exact : Operation → ℤ → ℤ → ℤ
exact operation.Plus a b = a +ℤ b
exact operation.Minus a b = a -ℤ b
exact operation.Times a b = a *ℤ b

-- a number, or none where it is Over
abbrev pub checked_outcome : Option ℤ → Outcome
checked_outcome None = over
checked_outcome (Some n) = known (number n)

-- what an aggregate takes, kept by a column with these values; none where it is Over
abbrev pub kept_outcome : List Cell → Option (Kept) → Outcome
kept_outcome values None = over
kept_outcome values (Some c) = known (spelt_cell values c)
