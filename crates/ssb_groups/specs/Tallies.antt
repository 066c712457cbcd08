-- Totals as they are kept: for each aggregate a list, its tally, in which the total of each group stands at the group's place.
-- For the contracts inside this crate.
use Rattle.std.specs.Prelude.{◌≡◌, ◌⊎◌, ℕ, ℤ, suc, ◌≤◌, List, [], ◌∷◌, map, length, get_or, Some, slice_get}
use Rattle.std.specs.declared.alloc.Global.{Global}
use Rattle.std.specs.declared.vec.Vec.{Vec}
use Rattle.ssb_cells.specs.Cell.{Cell, null}
use Rattle.ssb_plan.specs.JobShape.{JobShape}
use Rattle.ssb_query.specs.declared.column.BoundColumn.{BoundColumn}
use Rattle.ssb_trees.specs.declared.aggregate.Aggregate.{Aggregate}
use Rattle.ssb_groups.specs.Aggregates.{agg, arguments_at}
use Rattle.ssb_groups.specs.Joining.{joining_of, joinings_of, values_by}
use Rattle.ssb_groups.specs.Keys.{AreKept, IsKept, cells_in, kept_total, spelt, spelt_cell}
use Rattle.ssb_groups.specs.Rows.{Key, SeenRow}
use Rattle.ssb_groups.specs.GroupKeys.{GroupKey}
use Rattle.ssb_groups.specs.declared.block_totals.BlockTotals.{BlockTotals}
use Rattle.ssb_groups.specs.declared.block_totals.Listing.{Listing}
use Rattle.ssb_groups.specs.declared.block_totals.Listing.TheVariants as listing
use Rattle.ssb_groups.specs.declared.kept.KeptTotal.{KeptTotal}
use Rattle.ssb_groups.specs.declared.kept.KeptTotal.TheVariants as total
use Rattle.ssb_keys.specs.declared.kept.Kept.{Kept}
use Rattle.ssb_keys.specs.declared.kept.Kept.TheVariants as kept

-- ---- what they stand for

-- the values among which the texts of each aggregate are
abbrev pub total_columns : JobShape → List (List Cell)
total_columns j = map (values_by j.tables) (joinings_of j)

-- the aggregates that totals stand for
abbrev pub totals_in : JobShape → List Kept → List Cell
totals_in j ts = spelt (total_columns j) ts

-- there is a total for each aggregate
abbrev pub AreTotals : JobShape → List Kept → Type 0
AreTotals j ts = AreKept (total_columns j) ts

-- tallies as the lists that they are
abbrev pub items : {X : Type 0} → Vec X Global → List X
items tally = tally.items

abbrev pub lists : {X : Type 0} → List (Vec X Global) → List (List X)
lists tallies = map items tallies

-- what totals stand for
abbrev pub kept_totals : List KeptTotal → List Kept
kept_totals ts = map kept_total ts

abbrev pub tally_cells : Vec KeptTotal Global → List Kept
tally_cells tally = kept_totals tally.items

-- what stands for numbers
abbrev pub kept_numbers : List ℤ → List Kept
kept_numbers ns = map kept.Number ns

-- what stands for texts with these codes
abbrev pub kept_codes : List ℕ → List Kept
kept_codes cs = map kept.Code cs

-- what stands for an aggregate over each combination of a block alone, by the list that has it
abbrev pub cells_by : Listing → List Kept → List ℤ → List ℕ → List Kept
cells_by listing.Cells cells numbers codes = cells
cells_by listing.Numbers cells numbers codes = kept_numbers numbers
cells_by listing.Codes cells numbers codes = kept_codes codes

abbrev pub block_cells : BlockTotals → List Kept
block_cells totals = cells_by totals.listing totals.cells.items totals.numbers.items totals.codes.items

-- the totals at a place
abbrev pub totals_at : List (List KeptTotal) → ℕ → List Kept
totals_at tallies p = map (λ tally. kept_total (get_or tally p total.Null)) tallies

-- the groups from a place on: what each key stands for, and the aggregates at its place
abbrev pub entries_from : JobShape → List (List KeptTotal) → ℕ → List GroupKey → List (Key × List Cell)
entries_from j tallies p [] = []
entries_from j tallies p (k ∷ ks) = (cells_in j k, totals_in j (totals_at tallies p)) ∷ entries_from j tallies (suc p) ks

abbrev pub entries_of : JobShape → List GroupKey → List (List KeptTotal) → List (Key × List Cell)
entries_of j ks tallies = entries_from j tallies 0 ks

-- a tally of so many groups, whose texts are among these values; behind the last group it has no total
pub record IsTally (values : List Cell) (groups : ℕ) (tally : List KeptTotal) : Type 0 where
  pub long : groups ≤ length tally
  pub kept : (p : ℕ) → IsKept values (kept_total (get_or tally p total.Null))
  pub rest : (p : ℕ) → groups ≤ p → get_or tally p total.Null ≡ total.Null

-- the values among which the texts of an aggregate are
abbrev pub texts_of : JobShape → Aggregate BoundColumn → List Cell
texts_of j a = values_by j.tables (joining_of j a)

-- a tally for each aggregate
pub record AreTallies (j : JobShape) (groups : ℕ) (tallies : List (List KeptTotal)) : Type 0 where
  pub many : length tallies ≡ length j.query.aggregates
  pub each : (i : ℕ) (a : Aggregate BoundColumn) → slice_get j.query.aggregates i ≡ Some a → IsTally (texts_of j a) groups (get_or tallies i [])

-- so many totals, whose texts are among these values, that are joined to those of groups
pub record IsAdded (values : List Cell) (count : ℕ) (more : List Kept) : Type 0 where
  pub long : count ≤ length more
  pub kept : (p : ℕ) → IsKept values (get_or more p kept.Null)

-- so many for each aggregate
pub record AreAdded (j : JobShape) (count : ℕ) (more : List (List Kept)) : Type 0 where
  pub many : length more ≡ length j.query.aggregates
  pub each : (i : ℕ) (a : Aggregate BoundColumn) → slice_get j.query.aggregates i ≡ Some a → IsAdded (texts_of j a) count (get_or more i [])

-- ---- totals over rows

-- the i-th aggregate over rows, which may be null over none
abbrev pub IsTotal : ℕ → Aggregate BoundColumn → List SeenRow → Cell → Type 0
IsTotal i a R c = (c ≡ agg a (arguments_at i R)) ⊎ ((R ≡ []) × (c ≡ null))

-- what stands in a tally at a place
abbrev pub total_at : List Cell → List KeptTotal → ℕ → Cell
total_at values tally p = spelt_cell values (kept_total (get_or tally p total.Null))

-- at each place the tally of the i-th aggregate has that over the rows there
abbrev pub Tells : List Cell → ℕ → Aggregate BoundColumn → List KeptTotal → (ℕ → List SeenRow) → Type 0
Tells values i a tally rows = (p : ℕ) → IsTotal i a (rows p) (total_at values tally p)

abbrev pub AllTell : JobShape → List (List KeptTotal) → (ℕ → List SeenRow) → Type 0
AllTell j tallies rows = (i : ℕ) (a : Aggregate BoundColumn) → slice_get j.query.aggregates i ≡ Some a → Tells (texts_of j a) i a (get_or tallies i []) rows
