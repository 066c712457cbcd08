-- Totals over two lists of rows, from those over each.
-- For the contracts inside this crate.
use Rattle.std.specs.Prelude.{ℕ, get_or, ℤ, ◌+ℤ◌, ◌≡◌, ⊤, true, List, [], ◌∷◌, map, Option, None, Some, option_map}
use Rattle.std.specs.List.{list_all}
use Rattle.std.specs.declared.alloc.Global.{Global}
use Rattle.std.specs.declared.vec.Vec.{Vec}
use Rattle.ssb_cells.specs.Cell.{Cell, null, number}
use Rattle.ssb_cells.specs.Codes.{texts_of}
use Rattle.ssb_cells.specs.Tables.{Columns}
use Rattle.ssb_keys.specs.declared.domain.Domain.{Domain}
use Rattle.ssb_plan.specs.Inputs.{column_ref, has_column}
use Rattle.ssb_plan.specs.JobShape.{JobShape}
use Rattle.ssb_plan.specs.Ranks.{AreRanks}
use Rattle.ssb_plan.specs.declared.input.ColumnRef.{ColumnRef}
use Rattle.ssb_query.specs.declared.column.BoundColumn.{BoundColumn}
use Rattle.ssb_trees.specs.Expressions.{own_column}
use Rattle.ssb_trees.specs.declared.aggregate.Aggregate.{Aggregate}
use Rattle.ssb_trees.specs.declared.aggregate.Aggregate.TheVariants as aggregate
use Rattle.ssb_trees.specs.declared.aggregate.SetFunction.{SetFunction}
use Rattle.ssb_trees.specs.declared.aggregate.SetFunction.TheVariants as function
use Rattle.ssb_trees.specs.declared.expr.Expr.{Expr}
use Rattle.ssb_groups.specs.Aggregates.{greater, lesser}
use Rattle.ssb_groups.specs.Keys.{AreDomains, FitsSum, IsKept, domains_of, spelt_cell}
use Rattle.ssb_groups.specs.Refs.{IsSomeColumn, values_at}
use Rattle.ssb_groups.specs.declared.joining.Joining.{Joining}
use Rattle.ssb_groups.specs.declared.joining.Joining.TheVariants as joining
use Rattle.ssb_keys.specs.declared.kept.Kept.{Kept}

-- ---- how an aggregate's totals are joined

-- the column that an expression is, if it is one alone
abbrev pub sole_ref : JobShape → Expr BoundColumn → Option ColumnRef
sole_ref j e = option_map (column_ref j.query) (own_column e)

-- that of a set function, by the column whose values it takes, if it takes one's
abbrev pub joining_by : SetFunction → Option ColumnRef → Joining
joining_by function.Sum column = joining.Adds
joining_by function.Count column = joining.Adds
joining_by function.Min column = joining.Least column
joining_by function.Max column = joining.Greatest column

abbrev pub joining_of : JobShape → Aggregate BoundColumn → Joining
joining_of j aggregate.Rows = joining.Adds
joining_of j (aggregate.Of f e) = joining_by f (sole_ref j e)

-- those of a job's aggregates
abbrev pub joinings_of : JobShape → List Joining
joinings_of j = map (joining_of j) j.query.aggregates

-- the values among which a total's texts are
abbrev pub values_by : List Columns → Joining → List Cell
values_by tables joining.Adds = []
values_by tables (joining.Least p) = values_at tables p
values_by tables (joining.Greatest p) = values_at tables p

-- its column is one of the tables'
abbrev pub IsJoining : List Columns → Joining → Type 0
IsJoining tables joining.Adds = ⊤
IsJoining tables (joining.Least p) = IsSomeColumn tables p
IsJoining tables (joining.Greatest p) = IsSomeColumn tables p

-- ranks of the texts among which a total's texts are; of no matter where totals are added
abbrev pub HasRanksBy : List Columns → Joining → List ℕ → Type 0
HasRanksBy tables joining.Adds ranks = ⊤
HasRanksBy tables (joining.Least p) ranks = AreRanks (texts_of (values_at tables p)) ranks
HasRanksBy tables (joining.Greatest p) ranks = AreRanks (texts_of (values_at tables p)) ranks

-- those, or none
abbrev pub MayHaveRanks : List Columns → Joining → Option (Vec ℕ Global) → Type 0
MayHaveRanks tables w None = ⊤
MayHaveRanks tables w (Some ranks) = HasRanksBy tables w ranks.items

-- for each of some joinings
abbrev pub AreRanksBy : List Columns → List Joining → List (Option (Vec ℕ Global)) → Type 0
AreRanksBy tables ws all = (i : ℕ) → MayHaveRanks tables (get_or ws i joining.Adds) (get_or all i None)

abbrev pub AreJoinings : List Columns → List Joining → Type 0
AreJoinings tables [] = ⊤
AreJoinings tables (w ∷ ws) = IsJoining tables w × AreJoinings tables ws

-- The columns of a job's groups with their domains, and how its aggregates' totals are joined, by which ranks: all of their columns are the tables'.
pub record AreColumnsOf (j : JobShape) (ts : List Columns) (rs : List ColumnRef) (ds : Option (Vec Domain Global)) (ws : List Joining) (ranks : List (Option (Vec ℕ Global))) : Type 0 where
  pub tables : ts ≡ j.tables
  pub keys : rs ≡ map (column_ref j.query) j.query.groups
  pub domains : AreDomains (domains_of j) ds
  pub joinings : ws ≡ joinings_of j
  pub there : list_all (has_column j.query j.tables) rs ≡ true
  pub known : AreJoinings j.tables ws
  pub ranked : AreRanksBy j.tables ws ranks

-- two totals of a column of the tables
pub record AreOfColumn (tables : List Columns) (p : Option ColumnRef) (a b : Kept) : Type 0 where
  pub column : IsSomeColumn tables p
  pub left : IsKept (values_at tables p) a
  pub right : IsKept (values_at tables p) b

-- the sum of two totals that are not null; no sum is a text
abbrev pub added : Cell → Cell → Cell
added null b = b
added a null = a
added (number x) (number y) = number (x +ℤ y)
added a b = null

abbrev pub joined : Joining → Cell → Cell → Cell
joined joining.Adds = added
joined (joining.Least p) = lesser
joined (joining.Greatest p) = greater

-- to add to a total is to add to this number
abbrev pub AddsAs : Kept → ℤ → Type 0
AddsAs t s = (n : ℤ) → added (spelt_cell [] t) (number n) ≡ number (s +ℤ n)

-- two numbers may be added: their sum does not leave 96 bits
abbrev pub FitsAdded : Cell → Cell → Type 0
FitsAdded (number x) (number y) = FitsSum (x +ℤ y)
FitsAdded a b = ⊤

abbrev pub Fits : Joining → Cell → Cell → Type 0
Fits joining.Adds a b = FitsAdded a b
Fits (joining.Least p) a b = ⊤
Fits (joining.Greatest p) a b = ⊤

-- a total is joined to another, where they fit
abbrev pub JoinsTotal : Joining → Cell → Cell → Cell → Type 0
JoinsTotal w before more after = Fits w before more → after ≡ joined w before more

-- ---- place by place

-- the totals of two lists joined, place by place
abbrev pub joined_each : List Joining → List Cell → List Cell → List Cell
joined_each (w ∷ ws) (x ∷ xs) (y ∷ ys) = joined w x y ∷ joined_each ws xs ys
joined_each ws xs ys = []

-- ---- key by key

abbrev pub option_joined : List Joining → Option (List Cell) → Option (List Cell) → Option (List Cell)
option_joined ws None other = other
option_joined ws (Some xs) None = Some xs
option_joined ws (Some xs) (Some ys) = Some (joined_each ws xs ys)
