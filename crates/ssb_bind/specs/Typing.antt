-- The types of what a query has, as it is written.
-- Source: SQL-92, 6.5 <set function specification>, 8.2 <comparison predicate>.
use Rattle.std.specs.Prelude.{ℕ, Bool, false, ◌||◌, List, Option, Some, None, is_none}
use Rattle.std.specs.List.{list_any}
use Rattle.ssb_terms.specs.declared.rule.ColType.{ColType}
use Rattle.ssb_trees.specs.Conditions.{Filter, operands}
use Rattle.ssb_trees.specs.Types.{aggregate_type, has_mixed, Kinds}
use Rattle.ssb_trees.specs.declared.operand.Operand.{Operand}
use Rattle.ssb_trees.specs.declared.operand.Operand.TheVariants as operand
use Rattle.ssb_query.specs.Tables.{kind_at}
use Rattle.ssb_query.specs.declared.column.BoundColumn.{BoundColumn}
use Rattle.ssb_query.specs.declared.query.TableRules.{TableRules}
use Rattle.ssb_bind.specs.declared.fit.Fit.{Fit}
use Rattle.ssb_bind.specs.declared.fit.Fit.TheVariants as fit
use Rattle.ssb_bind.specs.declared.resolved.Resolved.{Resolved}
use Rattle.ssb_bind.specs.declared.resolved.ResolvedName.{ResolvedName}
use Rattle.ssb_bind.specs.declared.resolved.ResolvedOutput.{ResolvedOutput}
use Rattle.ssb_bind.specs.declared.resolved.ResolvedOutput.TheVariants as output

-- the type of the one column that fits
abbrev pub fit_type : List TableRules → List ℕ → Fit BoundColumn → Option ColType
fit_type tables from (fit.One x) = kind_at tables from x
fit_type tables from fit.Missing = None
fit_type tables from fit.Several = None

-- the type of the column that a name stands for
abbrev pub name_type : List TableRules → List ℕ → Kinds ResolvedName
name_type tables from name = fit_type tables from name.fit

-- the type of an output: that of its column, or of its aggregate
abbrev pub output_type : List TableRules → List ℕ → Kinds ResolvedOutput
output_type tables from (output.Column name group) = name_type tables from name
output_type tables from (output.Aggregate a) = aggregate_type (name_type tables from) a

-- SUM of a text, and any output of an expression that has no type
abbrev pub is_untyped : List TableRules → List ℕ → ResolvedOutput → Bool
is_untyped tables from o = is_none (output_type tables from o)

abbrev pub is_untyped_operand : List TableRules → List ℕ → Operand ResolvedOutput → Bool
is_untyped_operand tables from (operand.Column o) = is_untyped tables from o
is_untyped_operand tables from (operand.Literal l) = false

abbrev pub has_untyped : List TableRules → List ℕ → Option (Filter ResolvedOutput) → Bool
has_untyped tables from None = false
has_untyped tables from (Some h) = list_any (is_untyped_operand tables from) (operands (Operand ResolvedOutput) h)

-- an output of the select list or of HAVING has no type, or a test of WHERE or HAVING has a number beside a text
abbrev pub has_mismatch : List TableRules → List ℕ → Resolved → Bool
has_mismatch tables from r = list_any (is_untyped tables from) r.outputs || (has_mixed (name_type tables from) r.condition || (has_untyped tables from r.having || has_mixed (output_type tables from) r.having))
