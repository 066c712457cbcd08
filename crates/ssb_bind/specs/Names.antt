-- The names of columns that a query has, in the order of its text: the select list, WHERE, GROUP BY, HAVING.
-- Source: own. Names in ORDER BY are those of select columns.
use Rattle.std.specs.Prelude.{Bool, List, [], ◌∷◌, ◌++◌, map, Option, Some, None}
use Rattle.ssb_trees.specs.Conditions.{Filter, operands}
use Rattle.ssb_trees.specs.Expressions.{aggregate_columns}
use Rattle.ssb_trees.specs.Lists.{concat}
use Rattle.ssb_trees.specs.declared.operand.Operand.{Operand}
use Rattle.ssb_trees.specs.declared.operand.Operand.TheVariants as operand
use Rattle.ssb_bind.specs.declared.resolved.Resolved.{Resolved}
use Rattle.ssb_bind.specs.declared.resolved.ResolvedName.{ResolvedName}
use Rattle.ssb_bind.specs.declared.resolved.ResolvedOutput.{ResolvedOutput}
use Rattle.ssb_bind.specs.declared.resolved.ResolvedOutput.TheVariants as output

abbrev pub Names : Type 0
Names = List ResolvedName

-- a test of names
abbrev pub IsWanted : Type 0
IsWanted = ResolvedName → Bool

abbrev pub operand_names : {C : Type 0} → (C → Names) → Operand C → Names
operand_names of (operand.Column x) = of x
operand_names of (operand.Literal l) = []

-- the names of a condition, where these are of what stands beside literals in it
abbrev pub condition_names : {C : Type 0} → (C → Names) → Filter C → Names
condition_names {C} of c = concat (map (operand_names of) (operands (Operand C) c))

abbrev pub filter_names : {C : Type 0} → (C → Names) → Option (Filter C) → Names
filter_names of None = []
filter_names of (Some c) = condition_names of c

abbrev pub itself : ResolvedName → Names
itself name = name ∷ []

abbrev pub output_names : ResolvedOutput → Names
output_names (output.Column name group) = name ∷ []
output_names (output.Aggregate a) = aggregate_columns a

-- the names of columns of a query
abbrev pub column_names : Resolved → Names
column_names r = concat (map output_names r.outputs) ++ (filter_names itself r.condition ++ (r.groups ++ filter_names output_names r.having))

-- ---- outputs that are columns

-- an output's own column, if it is one, in no aggregate, and no group column
abbrev pub ungrouped : ResolvedOutput → Names
ungrouped (output.Column name None) = name ∷ []
ungrouped (output.Column name (Some place)) = []
ungrouped (output.Aggregate a) = []

-- the columns of the select list and of HAVING that stand in no aggregate and are no group columns
abbrev pub ungrouped_names : Resolved → Names
ungrouped_names r = concat (map ungrouped r.outputs) ++ filter_names ungrouped r.having
