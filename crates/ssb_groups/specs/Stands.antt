-- What groups stand for: the aggregates of a list of seen rows, or the least fact row of an overflow among them.
-- Source: SQL-92, 6.5 <set function specification>, 7.7 <group by clause>; that an overflow goes before all sums is this project's own.
use Rattle.std.specs.Prelude.{◌≡◌, ℕ, Bool, true, false, List, [], ◌∷◌, map, min, length, Option, None, Some, ⊤}
use Rattle.std.specs.List.{filter, list_any, IsDistinct}
use Rattle.std.specs.Map.{lookup}
use Rattle.ssb_cells.specs.Cell.{Cell, number}
use Rattle.ssb_query.specs.declared.column.BoundColumn.{BoundColumn}
use Rattle.ssb_trees.specs.declared.aggregate.Aggregate.{Aggregate}
use Rattle.ssb_plan.specs.JobShape.{JobShape}
use Rattle.ssb_groups.specs.Aggregates.{totals}
use Rattle.ssb_groups.specs.Rows.{Key, key_eq, SeenRow}
use Rattle.ssb_groups.specs.Value.{Outcome, over, known, in_range}

-- ---- overflow

abbrev pub is_over : Outcome → Bool
is_over over = true
is_over (known c) = false

abbrev pub has_over : SeenRow → Bool
has_over r = list_any is_over r.arguments

-- the fact rows, from 1, of the rows where some aggregate's argument is Over
abbrev pub overflows : List SeenRow → List ℕ
overflows R = map (λ r. r.fact) (filter has_over R)

abbrev pub least_of : Option ℕ → Option ℕ → Option ℕ
least_of None other = other
least_of (Some m) None = Some m
least_of (Some m) (Some n) = Some (min m n)

abbrev pub least : List ℕ → Option ℕ
least [] = None
least (n ∷ ns) = least_of (Some n) (least ns)

-- ---- groups

-- the rows of the group with this key
abbrev pub group : Key → List SeenRow → List SeenRow
group k R = filter (λ r. key_eq k r.key) R

-- the aggregates over a group; a group without rows is none
abbrev pub summary : List (Aggregate BoundColumn) → List SeenRow → Option (List Cell)
summary aggs [] = None
summary aggs (r ∷ rs) = Some (totals aggs (r ∷ rs))

-- what a contract sees of groups: their job, the aggregates of each key, the least fact row of an overflow, and a count of rows
pub record GroupMap : Type 0 where
  pub job : JobShape
  pub entries : List (Key × List Cell)
  pub overflow : Option ℕ
  pub counted : ℕ

-- a value whose number, if it is one, is that of an `int`, so that the exact sum of as many as a table has rows fits in 96 bits
abbrev pub IsRanged : Outcome → Type 0
IsRanged (known (number n)) = in_range n ≡ true
IsRanged o = ⊤

abbrev pub EachRanged : List Outcome → Type 0
EachRanged [] = ⊤
EachRanged (x ∷ xs) = IsRanged x × EachRanged xs

abbrev pub AreRanged : List SeenRow → Type 0
AreRanged [] = ⊤
AreRanged (r ∷ rs) = EachRanged r.arguments × AreRanged rs

-- The groups count as many rows as R has, whose numbers are those of an `int`, and record the least fact row of its overflows; where there is none, each
-- key of R has the aggregates of its group, and no other key has any.
pub record Stands (g : GroupMap) (R : List SeenRow) : Type 0 where
  pub ranged : AreRanged R
  pub counted : g.counted ≡ length R
  pub overflow : g.overflow ≡ least (overflows R)
  pub exact : g.overflow ≡ None → (k : Key) → lookup (key_eq k) g.entries ≡ summary g.job.query.aggregates (group k R)
  pub distinct : IsDistinct key_eq (map (λ e. e.0) g.entries)

-- groups of this job that stand for these rows
pub record SomeGroups (j : JobShape) (R : List SeenRow) : Type 0 where
  pub groups : GroupMap
  pub job : groups.job ≡ j
  pub stands : Stands groups R

-- a law: for any rows whose numbers are those of an `int` there are such groups
abbrev pub AnyRowsHaveGroups : Type 0
AnyRowsHaveGroups = (j : JobShape) (R : List SeenRow) → AreRanged R → SomeGroups j R
