-- Where the groups of rows stand among all groups.
-- For the contracts inside this crate.
use Rattle.std.specs.Prelude.{◌≡◌, ◌⊎◌, ⊤, ℕ, ◌+◌, ◌<◌, ◌≤◌, ◌^◌, true, nat_eq, cond, List, [], ◌∷◌, ◌++◌, length, get_or, Option, None, Some, slice_get}
use Rattle.std.specs.List.{All}
use Rattle.ssb_cells.specs.Cell.{Cell}
use Rattle.ssb_cells.specs.Tables.{Columns}
use Rattle.ssb_plan.specs.JobShape.{JobShape}
use Rattle.ssb_query.specs.declared.column.BoundColumn.{BoundColumn}
use Rattle.ssb_trees.specs.declared.aggregate.Aggregate.{Aggregate}
use Rattle.ssb_groups.specs.Aggregates.{agg, arguments_at}
use Rattle.ssb_groups.specs.Joining.{joining_of, values_by}
use Rattle.ssb_groups.specs.Keys.{IsKept, IsKey, cells_in, kept_total, spelt_cell}
use Rattle.ssb_groups.specs.Rows.{Key, SeenRow, key_eq}
use Rattle.ssb_groups.specs.Stands.{AreRanged}
use Rattle.ssb_groups.specs.Tallies.{AllTell, AreTallies, Tells, texts_of}
use Rattle.ssb_groups.specs.GroupKeys.{GroupKey}
use Rattle.ssb_groups.specs.GroupKeys as form
use Rattle.ssb_groups.specs.declared.joining.Joining.{Joining}
use Rattle.ssb_groups.specs.declared.places.Found.{Found}
use Rattle.ssb_groups.specs.declared.kept.KeptTotal.{KeptTotal}
use Rattle.ssb_groups.specs.declared.kept.KeptTotal.TheVariants as total
use Rattle.ssb_keys.specs.declared.kept.Kept.{Kept}
use Rattle.ssb_keys.specs.declared.kept.Kept.TheVariants as kept

-- ---- places of keys

-- each is a key of the job's groups
abbrev pub AreKeys : JobShape → List GroupKey → Type 0
AreKeys j [] = ⊤
AreKeys j (k ∷ ks) = IsKey j k × AreKeys j ks

-- the values of a key that is a number
abbrev pub number_cells : JobShape → ℕ → Key
number_cells j n = cells_in j (form.Number n)

-- a key of these values stands at a place
pub record IsPlaced (j : JobShape) (ks : List GroupKey) (values : Key) (place : ℕ) : Type 0 where
  pub key : GroupKey
  pub there : slice_get ks place ≡ Some key
  pub same : key_eq values (cells_in j key) ≡ true

-- one of each of these values stands at its place
abbrev pub ArePlaced : JobShape → List GroupKey → List Key → List ℕ → Type 0
ArePlaced j ks [] [] = ⊤
ArePlaced j ks [] (p ∷ ps) = ⊥
ArePlaced j ks (v ∷ vs) [] = ⊥
ArePlaced j ks (v ∷ vs) (p ∷ ps) = IsPlaced j ks v p × ArePlaced j ks vs ps

-- a key that is a number, where there is one, stands at its place
abbrev pub IsFound : JobShape → List GroupKey → Option Found → Type 0
IsFound j ks None = ⊤
IsFound j ks (Some f) = IsPlaced j ks (number_cells j f.number) f.place

-- a list begins with another
abbrev pub IsFront : List GroupKey → List GroupKey → Type 0
IsFront old new = (rest : List GroupKey) × (new ≡ old ++ rest)

-- a key of these values has a place, which is new where there was none
pub record Opens (j : JobShape) (old new : List GroupKey) (values : Key) (place : ℕ) : Type 0 where
  pub placed : IsPlaced j new values place
  pub grown : (new ≡ old) ⊎ ((k : GroupKey) × (new ≡ old ++ k ∷ []) × (place ≡ length old))

-- The values have places among the keys, which begin with the old ones; each place behind those is one of them.
pub record OpenAll (j : JobShape) (old new : List GroupKey) (values : List Key) (places : List ℕ) : Type 0 where
  pub front : IsFront old new
  pub placed : ArePlaced j new values places
  pub fresh : (p : ℕ) → length old ≤ p → p < length new → (i : ℕ) × (slice_get places i ≡ Some p)

-- ---- rows at places

-- of some lists of rows, each at a place, those at this place
abbrev pub rows_at : ℕ → List ℕ → List (List SeenRow) → List SeenRow
rows_at p [] Rs = []
rows_at p (q ∷ qs) [] = []
rows_at p (q ∷ qs) (R ∷ Rs) = cond (nat_eq p q) (R ++ rows_at p qs Rs) (rows_at p qs Rs)

abbrev pub AllRanged : List (List SeenRow) → Type 0
AllRanged [] = ⊤
AllRanged (R ∷ Rs) = AreRanged R × AllRanged Rs

-- the totals of the i-th aggregate over lists of rows
abbrev pub AreOver : List Cell → ℕ → Aggregate BoundColumn → List Kept → List (List SeenRow) → Type 0
AreOver values i a more Rs = (n : ℕ) → n < length Rs → spelt_cell values (get_or more n kept.Null) ≡ agg a (arguments_at i (get_or Rs n []))

abbrev pub AllOver : JobShape → List (List Kept) → List (List SeenRow) → Type 0
AllOver j more Rs = (i : ℕ) (a : Aggregate BoundColumn) → slice_get j.query.aggregates i ≡ Some a → AreOver (texts_of j a) i a (get_or more i []) Rs

-- lists of rows, each at a place, that can be joined to the rows at all places
pub record CanJoin (rows : ℕ → List SeenRow) (places : List ℕ) (Rs : List (List SeenRow)) : Type 0 where
  pub same : length Rs ≡ length places
  pub few : (p : ℕ) → length (rows p) + length (rows_at p places Rs) < 2 ^ 32
  pub ranged : (p : ℕ) → AreRanged (rows p)
  pub others : AllRanged Rs

-- A tally comes to have the totals over the rows at all places, and those that are joined to them.
abbrev pub JoinsColumn : List Columns → Joining → List ℕ → List Kept → List KeptTotal → List KeptTotal → Type 0
JoinsColumn tables w places more before after =
    (j : JobShape) (i : ℕ) (a : Aggregate BoundColumn) (rows : ℕ → List SeenRow) (Rs : List (List SeenRow)) → joining_of j a ≡ w → CanJoin rows places Rs
    → Tells (values_by tables w) i a before rows → AreOver (values_by tables w) i a more Rs → Tells (values_by tables w) i a after (λ p. rows p ++ rows_at p places Rs)

-- what joining does to a tally
pub record IsJoined (tables : List Columns) (w : Joining) (places : List ℕ) (more : List Kept) (before after : List KeptTotal) : Type 0 where
  pub joined : JoinsColumn tables w places more before after
  pub kept : (p : ℕ) → IsKept (values_by tables w) (kept_total (get_or after p total.Null))
  pub same : length after ≡ length before
  pub rest : (n p : ℕ) → All (λ q. q < n) places → n ≤ p → get_or after p total.Null ≡ get_or before p total.Null

-- tallies of so many groups, whose places these are
pub record ArePlacesOf (j : JobShape) (tallies : List (List KeptTotal)) (places : List ℕ) : Type 0 where
  pub groups : ℕ
  pub are : AreTallies j groups tallies
  pub within : All (λ p. p < groups) places

-- what joining does to all tallies
pub record AreJoined (j : JobShape) (places : List ℕ) (more : List (List Kept)) (before after : List (List KeptTotal)) : Type 0 where
  pub joined : (rows : ℕ → List SeenRow) (Rs : List (List SeenRow)) → CanJoin rows places Rs → AllTell j before rows → AllOver j more Rs → AllTell j after (λ p. rows p ++ rows_at p places Rs)
  pub tallies : (n : ℕ) → All (λ p. p < n) places → AreTallies j n before → AreTallies j n after

-- tallies with room for more groups, which have no total yet
pub record AreGrown (before after : List (List KeptTotal)) : Type 0 where
  pub many : length after ≡ length before
  pub longer : (i : ℕ) → length (get_or before i []) ≤ length (get_or after i [])
  pub same : (i p : ℕ) → get_or (get_or after i []) p total.Null ≡ get_or (get_or before i []) p total.Null

-- keys with their tallies
pub record IsTable (j : JobShape) (ks : List GroupKey) (tallies : List (List KeptTotal)) : Type 0 where
  pub keys : AreKeys j ks
  pub are : AreTallies j (length ks) tallies

-- tallies that are made longer, and then joined to others
pub record JoinsGrown (j : JobShape) (places : List ℕ) (more : List (List Kept)) (before after : List (List KeptTotal)) : Type 0 where
  pub grown : List (List KeptTotal)
  pub grows : AreGrown before grown
  pub joined : AreJoined j places more grown after

-- the totals of some values are joined to those of groups
pub record JoinsRows (j : JobShape) (values : List Key) (more : List (List Kept)) (old new : List GroupKey) (before after : List (List KeptTotal)) : Type 0 where
  pub places : List ℕ
  pub opens : OpenAll j old new values places
  pub joins : JoinsGrown j places more before after
