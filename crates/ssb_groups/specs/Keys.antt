-- How groups keep values: a text as its code in its column.
-- Source: own; for the contracts inside this crate.
use Rattle.std.specs.Prelude.{ℤ, pos, neg_ℤ, ◌*ℤ◌, ◌+ℤ◌, ◌≤ℤ◌, ◌<ℤ◌, ◌≡◌, true, ℕ, ◌+◌, ◌<◌, ◌≤◌, ◌^◌, ◌-ℤ◌, unsigned_abs, int_lt, if◌then◌else◌, List, [], ◌∷◌, length, map, get_or, Option, None, Some, slice_get, ⊤}
use Rattle.std.specs.declared.alloc.Global.{Global}
use Rattle.std.specs.declared.vec.Vec.{Vec}
use Rattle.ssb_query.specs.declared.column.BoundColumn.{BoundColumn}
use Rattle.ssb_cells.specs.Cell.{Cell, null, number, text}
use Rattle.ssb_cells.specs.Codes.{code_of, texts_of}
use Rattle.ssb_cells.specs.Tables.{Filled, Columns}
use Rattle.ssb_conditions.specs.Rows.{column_value}
use Rattle.ssb_keys.specs.Domains.{AreIn, IsLawful, cells, size}
use Rattle.ssb_keys.specs.Domains.{number as number_of}
use Rattle.ssb_keys.specs.declared.domain.Domain.{Domain}
use Rattle.ssb_keys.specs.declared.domain.Domain.TheVariants as domain
use Rattle.ssb_plan.specs.Inputs.{column_ref, table_at, values_in}
use Rattle.ssb_plan.specs.JobShape.{JobShape, from_tables}
use Rattle.ssb_plan.specs.Spans.{span_of}
use Rattle.ssb_plan.specs.declared.index.Span.{Span}
use Rattle.ssb_plan.specs.declared.input.ColumnRef.{ColumnRef}
use Rattle.ssb_terms.specs.declared.rule.ColType.{ColType}
use Rattle.ssb_terms.specs.declared.rule.ColType.TheVariants as kinds
use Rattle.ssb_groups.specs.Rows.{Key}
use Rattle.ssb_groups.specs.Value.{in_range}
use Rattle.ssb_groups.specs.GroupKeys.{GroupKey}
use Rattle.ssb_groups.specs.GroupKeys as form
use Rattle.ssb_keys.specs.declared.kept.Kept.{Kept}
use Rattle.ssb_keys.specs.declared.kept.Kept.TheVariants as kept
use Rattle.ssb_groups.specs.declared.kept.KeptTotal.{KeptTotal}
use Rattle.ssb_groups.specs.declared.kept.KeptTotal.TheVariants as total

-- ---- one cell

-- a code, or null where there is none
abbrev pub code_cell : Option ℕ → Kept
code_cell None = kept.Null
code_cell (Some code) = kept.Code code

-- a number of up to 96 bits, by the bits above the low 64 and by these
abbrev pub wide : ℤ → ℕ → ℤ
wide high low = high *ℤ pos (2 ^ 64) +ℤ pos low

-- the numbers that a total has room for: those of 96 bits, from -2^95 to 2^95 - 1
abbrev pub FitsSum : ℤ → Type 0
FitsSum s = (neg_ℤ (pos (2 ^ 95)) ≤ℤ s) × (s <ℤ pos (2 ^ 95))

-- what a total stands for
abbrev pub kept_total : KeptTotal → Kept
kept_total total.Null = kept.Null
kept_total (total.Number high low) = kept.Number (wide high low)
kept_total (total.Code code) = kept.Code code

-- what stands for a value of a column with these values
abbrev pub kept_cell : List Cell → Cell → Kept
kept_cell values null = kept.Null
kept_cell values (number n) = kept.Number n
kept_cell values (text t) = code_cell (code_of values t)

-- the value that it stands for
abbrev pub spelt_cell : List Cell → Kept → Cell
spelt_cell values kept.Null = null
spelt_cell values (kept.Number n) = number n
spelt_cell values (kept.Code code) = text (get_or (texts_of values) code [])

-- a code is one of the column
abbrev pub IsKept : List Cell → Kept → Type 0
IsKept values kept.Null = ⊤
IsKept values (kept.Number n) = ⊤
IsKept values (kept.Code code) = code < length (texts_of values)

-- ---- lists of cells, by the values of each of their columns

-- the values that they stand for
abbrev pub spelt : List (List Cell) → List Kept → List Cell
spelt [] cells = []
spelt (v ∷ vs) [] = []
spelt (v ∷ vs) (c ∷ cs) = spelt_cell v c ∷ spelt vs cs

-- there is a cell for each column, and each code is one of its column
abbrev pub AreKept : List (List Cell) → List Kept → Type 0
AreKept [] [] = ⊤
AreKept [] (c ∷ cs) = ⊥
AreKept (v ∷ vs) [] = ⊥
AreKept (v ∷ vs) (c ∷ cs) = IsKept v c × AreKept vs cs

-- ---- the keys of a job

abbrev pub column_in : Option Columns → ℕ → Option Filled
column_in None column = None
column_in (Some t) column = slice_get t column

-- the values of a column of FROM's tables; none where there is no such column, which no bound query names
abbrev pub column_values : List Columns → BoundColumn → List Cell
column_values tables x = values_in (column_in (slice_get tables x.table) x.column)

-- the values of each group column
abbrev pub key_columns : JobShape → List (List Cell)
key_columns j = map (column_values (from_tables j)) j.query.groups

-- what stands for the value of a group column in a combination
abbrev pub key_cell : List Columns → List ℕ → BoundColumn → Kept
key_cell tables rows x = kept_cell (column_values tables x) (column_value tables rows x)

-- the key of a combination
abbrev pub key_of : JobShape → List ℕ → List Kept
key_of j rows = map (key_cell (from_tables j) rows) j.query.groups

-- ---- keys as numbers

-- the values of a column as the digits of a key: of texts their codes, of numbers those from the least one on
abbrev pub domain_by : ColType → List Cell → Span → Domain
domain_by kinds.Text values s = domain.Codes (length (texts_of values) + 1)
domain_by kinds.Int values s = domain.Numbers s.least (if int_lt s.greatest s.least then 1 else unsigned_abs (s.greatest -ℤ s.least) + 2)

abbrev pub domain_in : Option Filled → Domain
domain_in None = domain.Codes 1
domain_in (Some f) = domain_by f.kind f.values (span_of f.values)

abbrev pub domain_of : List Columns → ColumnRef → Domain
domain_of tables r = domain_in (slice_get (table_at tables r.table) r.column)

-- those of a job's group columns
abbrev pub domains_of : JobShape → List Domain
domains_of j = map (domain_of j.tables) (map (column_ref j.query) j.query.groups)

-- a job's keys are numbers where there are at most 2^62
abbrev pub HasNumbers : JobShape → Type 0
HasNumbers j = size (domains_of j) ≤ 2 ^ 62

abbrev pub HasCells : JobShape → Type 0
HasCells j = 2 ^ 62 < size (domains_of j)

-- the domains of a job's group columns, where its keys are numbers
pub record HasDomains (j : JobShape) (ds : List Domain) : Type 0 where
  pub domains : ds ≡ domains_of j
  pub few : HasNumbers j

-- the number of a combination's key
pub record IsNumberOf (j : JobShape) (rows : List ℕ) (n : ℕ) : Type 0 where
  pub number : n ≡ number_of (domains_of j) (key_of j rows)
  pub there : AreIn (domains_of j) (key_of j rows)

-- those of a block's combinations
pub record AreNumbersOf (j : JobShape) (block : List (List ℕ)) (ns : List ℕ) : Type 0 where
  pub many : length ns ≡ length block
  pub each : (i : ℕ) (rows : List ℕ) → slice_get block i ≡ Some rows → IsNumberOf j rows (get_or ns i 0)

-- what stands for the values of a key
abbrev pub kept_in : JobShape → GroupKey → List Kept
kept_in j (form.Number n) = cells (domains_of j) n
kept_in j (form.Cells cells) = cells

-- the values of a key
abbrev pub cells_in : JobShape → GroupKey → Key
cells_in j k = spelt (key_columns j) (kept_in j k)

-- a number below as many as there may be, where a job's keys are numbers
abbrev pub IsForm : JobShape → GroupKey → Type 0
IsForm j (form.Number n) = HasNumbers j × (n < size (domains_of j))
IsForm j (form.Cells v) = HasCells j

-- a key of a job's groups
pub record IsKey (j : JobShape) (k : GroupKey) : Type 0 where
  pub form : IsForm j k
  pub kept : AreKept (key_columns j) (kept_in j k)

abbrev pub AreLawful : List Domain → Type 0
AreLawful [] = ⊤
AreLawful (d ∷ ds) = IsLawful d × AreLawful ds

-- the domains of a job's group columns, where its keys are numbers
abbrev pub AreDomains : List Domain → Option (Vec Domain Global) → Type 0
AreDomains all None = 2 ^ 62 < size all
AreDomains all (Some v) = (size all ≤ 2 ^ 62) × (v.items ≡ all) × AreLawful v.items

abbrev pub kind_in : Option Filled → ColType
kind_in None = kinds.Text
kind_in (Some f) = f.kind

-- the type of a column
abbrev pub kind_of : List Columns → ColumnRef → ColType
kind_of tables r = kind_in (slice_get (table_at tables r.table) r.column)

-- a cell of a column of this type, whose numbers are those of an `int`
abbrev pub IsOfKind : ColType → Kept → Type 0
IsOfKind kinds.Int (kept.Code code) = ⊥
IsOfKind kinds.Text (kept.Number n) = ⊥
IsOfKind kinds.Int (kept.Number n) = in_range n ≡ true
IsOfKind kind cell = ⊤

abbrev pub AreOfKind : ColType → List Kept → Type 0
AreOfKind kind cells = (n : ℕ) → n < length cells → IsOfKind kind (get_or cells n kept.Null)
