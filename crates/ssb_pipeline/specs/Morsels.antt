-- How the work on a job is cut: the rows of its fact table into morsels, and these into sections. Both by cut points: a piece goes from its cut point up
-- to, not including, the next.
-- Source: morsels are those of Leis and others, Morsel-Driven Parallelism, SIGMOD 2014; where they are cut is this project's own.
use Rattle.std.specs.Prelude.{◌≡◌, ◌≤◌, ◌<◌, ◌+◌, ◌-◌, ◌*◌, ◌/◌, ◌%◌, min, ℕ, List}
use Rattle.std.specs.List.{flat_map, range_with_len}

-- the numbers from one cut point up to the next
abbrev pub piece : (ℕ → ℕ) → ℕ → List ℕ
piece cut i = range_with_len (cut i) (cut (i + 1) - cut i)

-- the first so many pieces, one after the other
abbrev pub pieces : (ℕ → ℕ) → ℕ → List ℕ
pieces cut count = flat_map (piece cut) (range_with_len 0 count)

-- a number lies in a piece
abbrev pub LiesIn : (ℕ → ℕ) → ℕ → ℕ → Type 0
LiesIn cut x i = (cut i ≤ x) × (x < cut (i + 1))

-- just one of so many is such
pub record IsOneOf (count : ℕ) (P : ℕ → Type 0) : Type 0 where
  pub which : ℕ
  pub below : which < count
  pub here : P which
  pub only : (i : ℕ) → i < count → P i → i ≡ which

-- ---- morsels of so many rows each

-- where a morsel begins: as many morsels further, or behind the last row
abbrev pub row_cut : ℕ → ℕ → ℕ → ℕ
row_cut rows size i = min rows (i * size)

-- how many morsels there are: the fewest that have room for all rows, as `MorselsAreFewest` says
abbrev pub morsel_count : ℕ → ℕ → ℕ
morsel_count rows size = rows / size + min 1 (rows % size)

-- the rows of a morsel
abbrev pub morsel : ℕ → ℕ → ℕ → List ℕ
morsel rows size i = piece (row_cut rows size) i

-- ---- sections of as many morsels each, but for one

-- where a section begins
abbrev pub morsel_cut : ℕ → ℕ → ℕ → ℕ
morsel_cut morsels sections s = s * morsels / sections

-- the morsels of a section
abbrev pub section : ℕ → ℕ → ℕ → List ℕ
section morsels sections s = piece (morsel_cut morsels sections) s

-- ---- laws

abbrev pub RowsLieInOneMorsel : ℕ → ℕ → Type 0
RowsLieInOneMorsel rows size = 0 < size → (r : ℕ) → r < rows → IsOneOf (morsel_count rows size) (LiesIn (row_cut rows size) r)

abbrev pub MorselsAreTheRows : ℕ → ℕ → Type 0
MorselsAreTheRows rows size = 0 < size → pieces (row_cut rows size) (morsel_count rows size) ≡ range_with_len 0 rows

-- a count of pieces of this size has room for all rows, and no smaller count has
pub record IsFewest (rows size count : ℕ) : Type 0 where
  pub enough : rows ≤ count * size
  pub least : (c : ℕ) → rows ≤ c * size → count ≤ c

abbrev pub MorselsAreFewest : ℕ → ℕ → Type 0
MorselsAreFewest rows size = 0 < size → IsFewest rows size (morsel_count rows size)

abbrev pub MorselsLieInOneSection : ℕ → ℕ → Type 0
MorselsLieInOneSection morsels sections = 0 < sections → (i : ℕ) → i < morsels → IsOneOf sections (LiesIn (morsel_cut morsels sections) i)

abbrev pub SectionsAreTheMorsels : ℕ → ℕ → Type 0
SectionsAreTheMorsels morsels sections = 0 < sections → pieces (morsel_cut morsels sections) sections ≡ range_with_len 0 morsels
