-- What is gathered of a row, and what adding it does.
-- For the contracts inside this crate.
use Rattle.std.specs.Prelude.{◌≡◌, ⊤, ℕ, Bool, List, [], ◌∷◌, map, get_or, Some, slice_get}
use Rattle.std.specs.List.{filter}
use Rattle.ssb_cells.specs.Cell.{Cell}
use Rattle.ssb_query.specs.declared.column.BoundColumn.{BoundColumn}
use Rattle.ssb_trees.specs.declared.aggregate.Aggregate.{Aggregate}
use Rattle.ssb_conditions.specs.Rows.{column_value}
use Rattle.ssb_plan.specs.JobShape.{JobShape, from_tables}
use Rattle.ssb_groups.specs.Aggregates.{agg}
use Rattle.ssb_groups.specs.Joining.{joining_of, values_by}
use Rattle.ssb_groups.specs.Keys.{IsKept, spelt_cell}
use Rattle.ssb_groups.specs.Rows.{Key}
use Rattle.ssb_groups.specs.Seen.{argument, fact_of, seen}
use Rattle.ssb_groups.specs.Stands.{is_over, IsRanged}
use Rattle.ssb_groups.specs.declared.gather.Taken.{Taken}
use Rattle.ssb_keys.specs.declared.kept.Kept.{Kept}

-- an aggregate over one combination alone
abbrev pub alone : (BoundColumn → Cell) → Aggregate BoundColumn → Cell
alone cell a = agg a (argument cell a ∷ [])

-- of a combination and one aggregate: whether the value is Over, and the aggregate over it alone
pub record IsTaken (j : JobShape) (rows : List ℕ) (a : Aggregate BoundColumn) (t : Taken) : Type 0 where
  pub over : t.over ≡ is_over (argument (column_value (from_tables j) rows) a)
  pub alone : spelt_cell (values_by j.tables (joining_of j a)) t.total ≡ alone (column_value (from_tables j) rows) a
  pub kept : IsKept (values_by j.tables (joining_of j a)) t.total
  pub ranged : IsRanged (argument (column_value (from_tables j) rows) a)

-- the fact rows, from 1, of the combinations that pass a test
abbrev pub facts_where : JobShape → (List ℕ → Bool) → List (List ℕ) → List ℕ
facts_where j test block = map (fact_of j) (filter test block)

-- whether what an aggregate takes of a combination is Over
abbrev pub over_at : JobShape → Aggregate BoundColumn → List ℕ → Bool
over_at j a rows = is_over (argument (column_value (from_tables j) rows) a)

-- of combinations and one aggregate: the aggregate over each alone
abbrev pub AreTaken : JobShape → Aggregate BoundColumn → List (List ℕ) → List Kept → Type 0
AreTaken j a [] [] = ⊤
AreTaken j a [] (t ∷ ts) = ⊥
AreTaken j a (rows ∷ block) [] = ⊥
AreTaken j a (rows ∷ block) (t ∷ ts) = IsTaken j rows a (record { over = is_over (argument (column_value (from_tables j) rows) a); total = t }) × AreTaken j a block ts

-- the same where none is Over
pub record AreTakenPlain (j : JobShape) (a : Aggregate BoundColumn) (block : List (List ℕ)) (ts : List Kept) : Type 0 where
  pub taken : AreTaken j a block ts
  pub plain : facts_where j (over_at j a) block ≡ []

-- of all aggregates
abbrev pub AllTaken : JobShape → List (List ℕ) → List (List Kept) → Type 0
AllTaken j block tallies = (i : ℕ) (a : Aggregate BoundColumn) → slice_get j.query.aggregates i ≡ Some a → AreTaken j a block (get_or tallies i [])

-- the values of the group columns in a combination
abbrev pub key_at : JobShape → List ℕ → Key
key_at j rows = (seen j rows).key
