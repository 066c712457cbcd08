-- Set functions over single values.
-- For the contracts inside this crate.
use Rattle.std.specs.Prelude.{◌≡◌, ℕ, ◌<◌, List, [], ◌∷◌, length, get_or}
use Rattle.ssb_cells.specs.Cell.{Cell}
use Rattle.ssb_query.specs.declared.column.BoundColumn.{BoundColumn}
use Rattle.ssb_trees.specs.declared.aggregate.Aggregate.TheVariants as aggregate
use Rattle.ssb_trees.specs.declared.aggregate.SetFunction.{SetFunction}
use Rattle.ssb_trees.specs.declared.aggregate.SetFunction.TheVariants as function
use Rattle.ssb_trees.specs.declared.expr.Expr.{Expr}
use Rattle.ssb_groups.specs.Aggregates.{agg}
use Rattle.ssb_groups.specs.Keys.{IsKept, IsOfKind, spelt_cell}
use Rattle.ssb_terms.specs.declared.rule.ColType.{ColType}
use Rattle.ssb_groups.specs.Outcomes.{exact}
use Rattle.ssb_groups.specs.Stands.{IsRanged}
use Rattle.ssb_groups.specs.Value.{apply, column_number, column_outcome, known}
use Rattle.ssb_groups.specs.declared.outcome.Operation.{Operation}
use Rattle.ssb_keys.specs.declared.kept.Kept.{Kept}
use Rattle.ssb_keys.specs.declared.kept.Kept.TheVariants as kept

-- the values among which the texts of a set function's total are
abbrev pub texts_by : SetFunction → List Cell → List Cell
texts_by function.Sum values = []
texts_by function.Count values = []
texts_by function.Min values = values
texts_by function.Max values = values

-- what stands for a value of a column, whose texts are among these, and the total of a set function over it alone
pub record IsTotalOf (values : List Cell) (f : SetFunction) (c t : Kept) : Type 0 where
  pub spelt : (e : Expr BoundColumn) → spelt_cell (texts_by f values) t ≡ agg (aggregate.Of f e) (known (spelt_cell values c) ∷ [])
  pub kept : IsKept values c → IsKept (texts_by f values) t
  pub outcome : column_outcome (spelt_cell values c) ≡ known (spelt_cell values c)
  pub ranged : IsRanged (known (spelt_cell values c))

abbrev pub IsAlone : SetFunction → Kept → Kept → Type 0
IsAlone f c t = (values : List Cell) → IsTotalOf values f c t

-- a set function over a value of a column of this type alone is that value
abbrev pub IsItself : SetFunction → ColType → Type 0
IsItself f kind = (cell : Kept) → IsOfKind kind cell → IsAlone f cell cell

-- the same of each of some values
pub record AreAlone (f : SetFunction) (cells ts : List Kept) : Type 0 where
  pub many : length ts ≡ length cells
  pub each : (n : ℕ) → n < length cells → IsAlone f (get_or cells n kept.Null) (get_or ts n kept.Null)

-- what stands for the number that an operation makes of two, and the total of a set function over it alone
pub record IsApplied (o : Operation) (f : SetFunction) (a b t : Kept) : Type 0 where
  pub cell : Kept
  pub number : (vs ws us : List Cell) → known (spelt_cell us cell) ≡ apply (exact o) (column_number (spelt_cell vs a)) (column_number (spelt_cell ws b))
  pub kept : (us : List Cell) → IsKept us cell
  pub alone : IsAlone f cell t

-- the same of each two that stand side by side
pub record AreApplied (o : Operation) (f : SetFunction) (left right ts : List Kept) : Type 0 where
  pub many : length ts ≡ length left
  pub each : (n : ℕ) → n < length left → IsApplied o f (get_or left n kept.Null) (get_or right n kept.Null) (get_or ts n kept.Null)
