-- Loading the tables of a catalog, each of what its source gives: as far as it went.
-- Source: own.
use Rattle.std.specs.Prelude.{◌≡◌, ◌+◌, ◌++◌, ◌∷◌, ℕ, List, [], drop, length, map, take, Result, Ok, Err, Vec}
use Rattle.std.specs.declared.alloc.Global.{Global}
use Rattle.ssb_records.specs.CutShort.{IfRead}
use Rattle.ssb_cells.specs.Tables.{Columns}
use Rattle.ssb_load.specs.Files.{FailedAt, GrewEach, given_each}
use Rattle.ssb_cells.specs.Lawful.{most_rows}
use Rattle.ssb_load.specs.Loading.{LoadsFrom}
use Rattle.ssb_catalog.specs.Shapes.{TableShape, rules_of}
use Rattle.ssb_load.specs.declared.fault.FileFault.{FileFault}
use Rattle.ssb_records.specs.declared.fault.LoadFault.{LoadFault}
use Rattle.ssb_records.specs.declared.fault.LoadFault.TheVariants as load
use Rattle.ssb_terms.specs.declared.rule.Rule.{Rule}
use Rattle.ssb_records.specs.declared.source.Source.{Ghosts as Source}

-- a file's source was loaded, from its state before to that after
abbrev pub IsLoaded : {S : Type 0} → Source S → List Rule → S → S → Result Columns LoadFault → Type 0
IsLoaded source rules before after r = LoadsFrom source.given source.failures source.ends source.whole rules most_rows before after r

-- each source gave what it had given before, and perhaps some bytes more
abbrev pub Grew : {S : Type 0} → Source S → List S → List S → Type 0
Grew source before after = GrewEach (map source.given before) (map source.given after)

-- each source gave a table
pub data AreLoaded {S : Type 0} (source : Source S) : List TableShape → List S → List S → List Columns → Type 0 where
  none : AreLoaded source [] [] [] []
  more : {s : TableShape} {ss : List TableShape} {b a : S} {bs later : List S} {t : Columns} {ts : List Columns} → IsLoaded source (rules_of s) b a (Ok t) → AreLoaded source ss bs later ts → AreLoaded source (s ∷ ss) (b ∷ bs) (a ∷ later) (t ∷ ts)

-- Of tables numbered from the first number on, the one of the second has a fault, and those before it are loaded; or memory was refused. What became of the
-- tables behind it is not told, but that no source lost a byte.
pub data Stops {S : Type 0} (source : Source S) : ℕ → List TableShape → List S → List S → ℕ → LoadFault → Type 0 where
  here : {n : ℕ} {s : TableShape} {ss : List TableShape} {b a : S} {bs later : List S} {e : LoadFault} → IsLoaded source (rules_of s) b a (Err e) → Grew source bs later → Stops source n (s ∷ ss) (b ∷ bs) (a ∷ later) n e
  behind : {n k : ℕ} {s : TableShape} {ss : List TableShape} {b a : S} {bs later : List S} {t : Columns} {e : LoadFault} → IsLoaded source (rules_of s) b a (Ok t) → Stops source (n + 1) ss bs later k e → Stops source n (s ∷ ss) (b ∷ bs) (a ∷ later) k e
  refused : {n k : ℕ} {ss : List TableShape} {bs later : List S} → Grew source bs later → Stops source n ss bs later k load.Memory

-- what loading tables numbered from n on answers
abbrev pub Ran : {S : Type 0} → Source S → ℕ → List TableShape → List S → List S → Result (Vec Columns Global) FileFault → Type 0
Ran source n shapes before after (Ok tables) = AreLoaded source shapes before after tables.items
Ran source n shapes before after (Err e) = Stops source n shapes before after e.table e.fault

-- what loading tables of a catalog from the n-th on answers, one for each source
abbrev pub RanFrom : {S : Type 0} → Source S → List TableShape → ℕ → List S → List S → Result (Vec Columns Global) FileFault → Type 0
RanFrom source catalog n before after r = Ran source n (take (length before) (drop n catalog)) before after r

-- the answers of tables and of those behind them as one: the first fault of both, or all tables in their order, but for memory
abbrev pub ArePutTogether : Result (Vec Columns Global) FileFault → Result (Vec Columns Global) FileFault → Result (Vec Columns Global) FileFault → Type 0
ArePutTogether (Err e) back r = r ≡ Err e
ArePutTogether (Ok front) (Err e) r = r ≡ Err e
ArePutTogether (Ok front) (Ok back) (Ok tables) = tables.items ≡ front.items ++ back.items
ArePutTogether (Ok front) (Ok back) (Err e) = e.fault ≡ load.Memory

-- a failed read is told of a source only where it failed, behind tables and good records
abbrev pub FailedRead : {S : Type 0} → Source S → List TableShape → List S → List S → FileFault → Type 0
FailedRead source catalog before after e =
    IfRead e.fault (FailedAt catalog (given_each (map source.given before) (map source.given after)) (map source.failures before) (map source.failures after) e.table)
