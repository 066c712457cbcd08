-- Tables loaded, each of what its source gives: what their loads say of the whole.
use Rattle.std.proofs.Common.{◌≡◌, ◌∙◌, ◌++◌, ◌∷◌, [], ◌+◌, ◌<◌, ◌≤◌, suc, zero, get_or, drop, take, ℕ, List, length, map, Option, None, Some, Ok, Err, Result, refl, sym, ap, subst, arith, IfSome, IfErr, IfOk, OnOk}
use Rattle.std.specs.Prelude.{slice_get, slice_index, slice_set, unwrap_or, Vec}
use Rattle.std.specs.declared.alloc.Global.{Global}
use Rattle.std.proofs.Math.Seq.{drop-length, take-add}
use Rattle.std.proofs.lemmas.List.{append-nil, drop-drop, length-append, take_all}
use Rattle.ssb_records.specs.CutShort.{IfRead, IsCutShort}
use Rattle.ssb_load.specs.Files.{AreLawful, Bytes, FailedAt, FailsAt, GrewEach, LoadsAll, RoseEach, file_table, given_each, loaded_from}
use Rattle.ssb_cells.specs.Tables.{Columns}
use Rattle.ssb_records.specs.Giving.{given_since}
use Rattle.ssb_cells.specs.Lawful.{most_rows}
use Rattle.ssb_load.specs.Loading.{AreGoodRows, rules_at}
use Rattle.ssb_load.specs.Runs.{AreLoaded, ArePutTogether, FailedRead, Grew, IsLoaded, Ran, RanFrom, Stops}
use Rattle.ssb_load.specs.Runs.AreLoaded.{none, more}
use Rattle.ssb_load.specs.Runs.Stops.{here, behind, refused}
use Rattle.ssb_catalog.specs.Shapes.{TableShape, rules_of}
use Rattle.ssb_records.specs.declared.fault.CatalogFault.{CatalogFault}
use Rattle.ssb_load.specs.declared.fault.FileFault.{FileFault}
use Rattle.ssb_records.specs.declared.fault.LoadFault.{LoadFault}
use Rattle.ssb_records.specs.declared.fault.LoadFault.TheVariants as load
use Rattle.ssb_records.specs.declared.fault.RecordFault.{RecordFault}
use Rattle.ssb_records.specs.declared.source.Source.{Ghosts as Source}

-- what two states of sources give, file by file
abbrev between : {S : Type 0} → Source S → List S → List S → List Bytes
between source before after = given_each (map source.given before) (map source.given after)

-- ---- what each source gave

same-each : (bs : List Bytes) → GrewEach bs bs
same-each [] = tt
same-each (b ∷ bs) = (sym (ap (λ t. b ++ t) (drop-length b) ∙ append-nil b), same-each bs)

grew-all : {S : Type 0} (source : Source S) {ss : List TableShape} {bs later : List S} {ts : List Columns} → AreLoaded source ss bs later ts → Grew source bs later
grew-all source none = tt
grew-all source (more h rest) = (h.grows, grew-all source rest)

grew-stop : {S : Type 0} (source : Source S) {n k : ℕ} {ss : List TableShape} {bs later : List S} {e : LoadFault} → Stops source n ss bs later k e → Grew source bs later
grew-stop source (here h grew) = (h.grows, grew)
grew-stop source (behind h rest) = (h.grows, grew-stop source rest)
grew-stop source (refused grew) = grew

pub ran-grows : {S : Type 0} (source : Source S) (n : ℕ) (ss : List TableShape) (bs later : List S) (r : Result (Vec Columns Global) FileFault) → Ran source n ss bs later r → Grew source bs later
ran-grows source n ss bs later (Ok tables) h = grew-all source h
ran-grows source n ss bs later (Err e) h = grew-stop source h

-- ---- the tables, or the first file that is none, of the bytes that sources gave

all-given : {S : Type 0} (source : Source S) (j : ℕ) {ss : List TableShape} {bs later : List S} {ts : List Columns} → AreLoaded source ss bs later ts → loaded_from j ss (between source bs later) ≡ Ok ts
all-given source j none = refl
all-given source j (more h rest) = rw (h.loads, all-given source (j + 1) rest) refl

fault-given : {S : Type 0} (source : Source S) {n k r : ℕ} {f : RecordFault} {ss : List TableShape} {bs later : List S} → Stops source n ss bs later k (load.Record f r) → loaded_from n ss (between source bs later) ≡ Err (k, f, r)
fault-given source (here h grew) = rw h.loads refl
fault-given source (behind h rest) = rw (h.loads, fault-given source rest) refl

-- no fault of a catalog is told
no-catalog : {S : Type 0} (source : Source S) {n k r : ℕ} {f : CatalogFault} {ss : List TableShape} {bs later : List S} → Stops source n ss bs later k (load.BadCatalog f r) → ⊥
no-catalog source (here h grew) = h.loads
no-catalog source (behind h rest) = no-catalog source rest

fails-given : {S : Type 0} (source : Source S) (k : ℕ) (e : LoadFault) {ss : List TableShape} {bs later : List S} → Stops source 0 ss bs later k e → FailsAt ss (between source bs later) k e
fails-given source k (load.Record f r) h = fault-given source h
fails-given source k (load.BadCatalog f r) h = no-catalog source h
fails-given source k (load.Read r) h = tt
fails-given source k load.Memory h = tt

pub ran-loads : {S : Type 0} (source : Source S) (ss : List TableShape) (bs later : List S) (r : Result (Vec Columns Global) FileFault) → Ran source 0 ss bs later r → LoadsAll ss (between source bs later) r
ran-loads source ss bs later (Ok tables) h = all-given source 0 h
ran-loads source ss bs later (Err e) h = fails-given source e.table e.fault h

-- ---- of the bytes that sources tell beforehand

if-some : {A : Type 0} (P : A → Type 0) (o : Option A) (a : A) → o ≡ Some a → IfSome o P → P a
if-some P None a e h = cc e
if-some P (Some b) a e h = let same : b ≡ a = cc in subst P same h

all-told : {S : Type 0} (source : Source S) (j : ℕ) {ss : List TableShape} {bs later : List S} {ts : List Columns} (files : List Bytes) → AreLoaded source ss bs later ts → map source.whole bs ≡ map Some files
    → loaded_from j ss (given_each (map source.given bs) files) ≡ Ok ts
all-told source j files none is = refl
all-told source j [] (more h rest) is = cc is
all-told source j (f ∷ fs) (more {s = s} {b = b} {bs = bs} {t = t} h rest) is =
    let first : source.whole b ≡ Some f = cc in
    let others : map source.whole bs ≡ map Some fs = cc in
    rw (if-some (λ all. file_table s (given_since (source.given b) all) ≡ Ok t) (source.whole b) f first h.told, all-told source (j + 1) fs rest others) refl

fault-told : {S : Type 0} (source : Source S) {n k r : ℕ} {f : RecordFault} {ss : List TableShape} {bs later : List S} (files : List Bytes) → Stops source n ss bs later k (load.Record f r) → map source.whole bs ≡ map Some files
    → loaded_from n ss (given_each (map source.given bs) files) ≡ Err (k, f, r)
fault-told source [] (here h grew) is = cc is
fault-told source [] (behind h rest) is = cc is
fault-told source {r = r} {f = f} (file ∷ fs) (here {s = s} {b = b} h grew) is =
    let first : source.whole b ≡ Some file = cc in
    rw (if-some (λ all. file_table s (given_since (source.given b) all) ≡ Err (f, r)) (source.whole b) file first h.told) refl
fault-told source {n = n} (file ∷ fs) (behind {s = s} {b = b} {bs = bs} {t = t} h rest) is =
    let first : source.whole b ≡ Some file = cc in
    let others : map source.whole bs ≡ map Some fs = cc in
    rw (if-some (λ all. file_table s (given_since (source.given b) all) ≡ Ok t) (source.whole b) file first h.told, fault-told source {n = n + 1} fs rest others) refl

fails-told : {S : Type 0} (source : Source S) (k : ℕ) (e : LoadFault) {ss : List TableShape} {bs later : List S} (files : List Bytes) → Stops source 0 ss bs later k e → map source.whole bs ≡ map Some files
    → FailsAt ss (given_each (map source.given bs) files) k e
fails-told source k (load.Record f r) files h is = fault-told source files h is
fails-told source k (load.BadCatalog f r) files h is = no-catalog source h
fails-told source k (load.Read r) files h is = tt
fails-told source k load.Memory files h is = tt

pub ran-told : {S : Type 0} (source : Source S) (ss : List TableShape) (bs later : List S) (r : Result (Vec Columns Global) FileFault) (files : List Bytes) → Ran source 0 ss bs later r → map source.whole bs ≡ map Some files
    → LoadsAll ss (given_each (map source.given bs) files) r
ran-told source ss bs later (Ok tables) files h is = all-told source 0 files h is
ran-told source ss bs later (Err e) files h is = fails-told source e.table e.fault files h is

-- ---- a read that failed

-- the tables before the i-th, and what shows that a read of its source failed
record FailsIn {S : Type 0} (source : Source S) (ss : List TableShape) (bs later : List S) (i n : ℕ) : Type 0 where
  pub tables : List Columns
  pub loads : (j : ℕ) → loaded_from j (take i ss) (take i (between source bs later)) ≡ Ok tables
  pub rose : slice_index (map source.failures bs) i < slice_index (map source.failures later) i
  pub short : IsCutShort (AreGoodRows (rules_at ss i) most_rows) (unwrap_or (slice_get (between source bs later) i) []) n

fails-in : {S : Type 0} (source : Source S) {n k r : ℕ} {ss : List TableShape} {bs later : List S} → Stops source n ss bs later k (load.Read r) → (i : ℕ) × (k ≡ n + i) × FailsIn source ss bs later i r
fails-in source (here h grew) = (0, omega arith, record { tables = []; loads = λ j. refl; rose = h.broken; short = h.short })
fails-in source (behind {t = t} h rest) =
    let f = fails-in source rest in
    let number = f.1 in
    (suc f.0, omega (arith, number), record { tables = t ∷ f.2.tables; loads = λ j. rw (h.loads, f.2.loads (j + 1)) refl; rose = f.2.rose; short = f.2.short })

failed-by : {S : Type 0} (source : Source S) (ss : List TableShape) (bs later : List S) (e : FileFault) (fault : LoadFault) → fault ≡ e.fault → Stops source 0 ss bs later e.table fault
    → IfRead fault (FailedAt ss (between source bs later) (map source.failures bs) (map source.failures later) e.table)
failed-by source ss bs later e (load.Record f r) is h = tt
failed-by source ss bs later e (load.BadCatalog f r) is h = tt
failed-by source ss bs later e load.Memory is h = tt
failed-by source ss bs later e (load.Read r) is h =
    let f = fails-in source h in
    let number = f.1 in
    subst (λ t. FailedAt ss (between source bs later) (map source.failures bs) (map source.failures later) t r) (omega (arith, number))
    (record { tables = f.2.tables; loads = f.2.loads 0; rose = f.2.rose; short = f.2.short })

pub ran-failed : {S : Type 0} (source : Source S) (ss : List TableShape) (bs later : List S) (r : Result (Vec Columns Global) FileFault) → Ran source 0 ss bs later r → IfErr r (FailedRead source ss bs later)
ran-failed source ss bs later (Ok tables) h = tt
ran-failed source ss bs later (Err e) h = failed-by source ss bs later e e.fault refl h

-- ---- all are loaded

rose-all : {S : Type 0} (source : Source S) {ss : List TableShape} {bs later : List S} {ts : List Columns} → AreLoaded source ss bs later ts → RoseEach (map source.ends bs) (map source.ends later)
rose-all source none = tt
rose-all source (more h rest) = (h.ended, rose-all source rest)

pub ran-ended : {S : Type 0} (source : Source S) (n : ℕ) (ss : List TableShape) (bs later : List S) (r : Result (Vec Columns Global) FileFault) → Ran source n ss bs later r → OnOk r (RoseEach (map source.ends bs) (map source.ends later))
ran-ended source n ss bs later (Ok tables) h = rose-all source h
ran-ended source n ss bs later (Err e) h = tt

lawful-all : {S : Type 0} (source : Source S) {ss : List TableShape} {bs later : List S} {ts : List Columns} → AreLoaded source ss bs later ts → AreLawful ss ts
lawful-all source none = tt
lawful-all source (more h rest) = (h.lawful, lawful-all source rest)

pub ran-lawful : {S : Type 0} (source : Source S) (n : ℕ) (ss : List TableShape) (bs later : List S) (r : Result (Vec Columns Global) FileFault) → Ran source n ss bs later r → IfOk r (λ tables. AreLawful ss tables.items)
ran-lawful source n ss bs later (Ok tables) h = lawful-all source h
ran-lawful source n ss bs later (Err e) h = tt

-- ---- tables beside those behind them

-- the tables of a catalog from this one on
from-table : (catalog : List TableShape) (n : ℕ) → n < length catalog → (s : TableShape) × (drop n catalog ≡ s ∷ drop (suc n) catalog) × (rules_at catalog n ≡ rules_of s)
from-table [] n lt = absurd (omega arith)
from-table (s ∷ ss) zero lt = (s, refl, refl)
from-table (s ∷ ss) (suc n) lt = from-table ss n (omega arith)

-- one table alone was loaded
pub ran-one : {S : Type 0} (source : Source S) (catalog : List TableShape) (n : ℕ) (b a : S) (t : Columns) (tables : Vec Columns Global) → n < length catalog → IsLoaded source (rules_at catalog n) b a (Ok t) → tables.items ≡ t ∷ []
    → RanFrom source catalog n (b ∷ []) (a ∷ []) (Ok tables)
ran-one source catalog n b a t tables lt h is = let at = from-table catalog n lt in rw (at.1, is) (more (subst (λ rules. IsLoaded source rules b a (Ok t)) at.2 h) none)

-- it has a fault
pub stops-one : {S : Type 0} (source : Source S) (catalog : List TableShape) (n : ℕ) (b a : S) (e : LoadFault) → n < length catalog → IsLoaded source (rules_at catalog n) b a (Err e)
    → RanFrom source catalog n (b ∷ []) (a ∷ []) (Err (record { table = n; fault = e }))
stops-one source catalog n b a e lt h = let at = from-table catalog n lt in rw at.1 (here (subst (λ rules. IsLoaded source rules b a (Err e)) at.2 h) tt)

-- memory for the list of it is refused
pub refused-one : {S : Type 0} (source : Source S) (catalog : List TableShape) (n : ℕ) (b a : S) (t : Columns) → n < length catalog → IsLoaded source (rules_at catalog n) b a (Ok t)
    → RanFrom source catalog n (b ∷ []) (a ∷ []) (Err (record { table = n; fault = load.Memory }))
refused-one source catalog n b a t lt h = refused (h.grows, tt)

grew-both : {S : Type 0} (source : Source S) (bs later cs last : List S) → Grew source bs later → Grew source cs last → Grew source (bs ++ cs) (later ++ last)
grew-both source [] [] cs last front back = back
grew-both source [] (a ∷ later) cs last front back = absurd front
grew-both source (b ∷ bs) [] cs last front back = absurd front
grew-both source (b ∷ bs) (a ∷ later) cs last front back = (front.0, grew-both source bs later cs last front.1 back)

loaded-both : {S : Type 0} (source : Source S) {ss rs : List TableShape} {bs later cs last : List S} {ts us : List Columns} → AreLoaded source ss bs later ts → AreLoaded source rs cs last us
    → AreLoaded source (ss ++ rs) (bs ++ cs) (later ++ last) (ts ++ us)
loaded-both source none back = back
loaded-both source (more h rest) back = more h (loaded-both source rest back)

stops-before : {S : Type 0} (source : Source S) {n k : ℕ} {ss : List TableShape} {bs later : List S} {e : LoadFault} (rs : List TableShape) (cs last : List S) → Stops source n ss bs later k e → Grew source cs last
    → Stops source n (ss ++ rs) (bs ++ cs) (later ++ last) k e
stops-before source rs cs last (here {bs = bs} {later = later} h grew) back = here h (grew-both source bs later cs last grew back)
stops-before source rs cs last (behind h rest) back = behind h (stops-before source rs cs last rest back)
stops-before source rs cs last (refused {bs = bs} {later = later} grew) back = refused (grew-both source bs later cs last grew back)

stops-behind : {S : Type 0} (source : Source S) (n m : ℕ) {k : ℕ} {ss rs : List TableShape} {bs later cs last : List S} {ts : List Columns} {e : LoadFault} → m ≡ n + length bs → AreLoaded source ss bs later ts → Stops source m rs cs last k e
    → Stops source n (ss ++ rs) (bs ++ cs) (later ++ last) k e
stops-behind source n m {k = k} {rs = rs} {cs = cs} {last = last} {e = e} is none back =
    let same : m ≡ n = omega (arith, is) in
    subst (λ i. Stops source i rs cs last k e) same back
stops-behind source n m is (more h rest) back = behind h (stops-behind source (n + 1) m (omega (arith, is)) rest back)

put-both : {S : Type 0} (source : Source S) (n m : ℕ) (ss rs : List TableShape) (bs later cs last : List S) (front back r : Result (Vec Columns Global) FileFault) → m ≡ n + length bs → Ran source n ss bs later front → Ran source m rs cs last back
    → ArePutTogether front back r → Ran source n (ss ++ rs) (bs ++ cs) (later ++ last) r
put-both source n m ss rs bs later cs last (Err e) back r at h ran is =
    subst (Ran source n (ss ++ rs) (bs ++ cs) (later ++ last)) (sym is) (stops-before source rs cs last h (ran-grows source m rs cs last back ran))
put-both source n m ss rs bs later cs last (Ok ts) (Err e) r at h ran is = subst (Ran source n (ss ++ rs) (bs ++ cs) (later ++ last)) (sym is) (stops-behind source n m at h ran)
put-both source n m ss rs bs later cs last (Ok ts) (Ok us) (Ok vs) at h ran is = subst (AreLoaded source (ss ++ rs) (bs ++ cs) (later ++ last)) (sym is) (loaded-both source h ran)
put-both source n m ss rs bs later cs last (Ok ts) (Ok us) (Err e) at h ran is =
    subst (Stops source n (ss ++ rs) (bs ++ cs) (later ++ last) e.table) (sym is) (refused (grew-both source bs later cs last (grew-all source h) (grew-all source ran)))

-- tables were loaded, and those behind them
pub ran-both : {S : Type 0} (source : Source S) (catalog : List TableShape) (n m : ℕ) (all bs later cs last : List S) (front back r : Result (Vec Columns Global) FileFault) → m ≡ n + length bs → all ≡ bs ++ cs
    → RanFrom source catalog n bs later front → RanFrom source catalog m cs last back → ArePutTogether front back r → RanFrom source catalog n all (later ++ last) r
ran-both source catalog n m all bs later cs last front back r at split h ran is =
    let parts : take (length all) (drop n catalog) ≡ take (length bs) (drop n catalog) ++ take (length cs) (drop m catalog) =
    ap (λ t. take (length t) (drop n catalog)) split ∙ ap (λ k. take k (drop n catalog)) (length-append bs cs) ∙ take-add (length bs) (length cs) (drop n catalog)
    ∙ ap (λ t. take (length bs) (drop n catalog) ++ take (length cs) t) (drop-drop (length bs) n catalog ∙ ap (λ k. drop k catalog) (omega (arith, at))) in
    subst (λ ss. Ran source n ss all (later ++ last) r) (sym parts)
    (subst (λ xs. Ran source n (take (length bs) (drop n catalog) ++ take (length cs) (drop m catalog)) xs (later ++ last) r) (sym split) (put-both source n m _ _ bs later cs last front back r at h ran is))

-- all tables of a catalog
pub ran-whole : {S : Type 0} (source : Source S) (catalog : List TableShape) (bs later : List S) (r : Result (Vec Columns Global) FileFault) → length bs ≡ length catalog → RanFrom source catalog 0 bs later r → Ran source 0 catalog bs later r
ran-whole source catalog bs later r long h = subst (λ ss. Ran source 0 ss bs later r) (take_all (length bs) catalog (omega (arith, long))) h

-- what holds anyway holds of tables that come
pub always-ok : {A E : Type 0} {P : Type 0} (r : Result A E) → P → OnOk r P
always-ok (Ok x) p = p
always-ok (Err e) p = tt

-- ---- one table after the other

-- the first tables are loaded, and the other sources are as before
pub data Begun {S : Type 0} (source : Source S) : ℕ → List TableShape → List S → List S → List Columns → Type 0 where
  start : {ss : List TableShape} {bs : List S} → Begun source 0 ss bs bs []
  next : {k : ℕ} {s : TableShape} {ss : List TableShape} {b a : S} {bs later : List S} {t : Columns} {ts : List Columns} → IsLoaded source (rules_of s) b a (Ok t) → Begun source k ss bs later ts
      → Begun source (suc k) (s ∷ ss) (b ∷ bs) (a ∷ later) (t ∷ ts)

pub begun-length : {S : Type 0} (source : Source S) {k : ℕ} {ss : List TableShape} {bs now : List S} {ts : List Columns} → Begun source k ss bs now ts → length now ≡ length bs
begun-length source start = refl
begun-length source (next h rest) = ap suc (begun-length source rest)

-- one table more
pub begun-next : {S : Type 0} (source : Source S) {k : ℕ} {ss : List TableShape} {bs now : List S} {ts : List Columns} (d after : S) (t : Columns) → Begun source k ss bs now ts → k < length ss → length bs ≡ length ss
    → IsLoaded source (rules_at ss k) (get_or now k d) after (Ok t) → Begun source (suc k) ss bs (slice_set now k after) (ts ++ t ∷ [])
begun-next source {ss = []} d after t start lt long h = absurd (omega arith)
begun-next source {ss = s ∷ ss} {bs = []} d after t start lt long h = absurd (omega (arith, long))
begun-next source {ss = s ∷ ss} {bs = b ∷ bs} d after t start lt long h = next h start
begun-next source d after t (next g rest) lt long h = next g (begun-next source d after t rest (omega arith) (omega (arith, long)) h)

-- the load of the next table fails
pub begun-stops : {S : Type 0} (source : Source S) {k : ℕ} {ss : List TableShape} {bs now : List S} {ts : List Columns} (n m : ℕ) (d after : S) (e : LoadFault) → m ≡ n + k → Begun source k ss bs now ts → k < length ss → length bs ≡ length ss
    → IsLoaded source (rules_at ss k) (get_or now k d) after (Err e) → Stops source n ss bs (slice_set now k after) m e
begun-stops source {ss = []} n m d after e is start lt long h = absurd (omega arith)
begun-stops source {ss = s ∷ ss} {bs = []} n m d after e is start lt long h = absurd (omega (arith, long))
begun-stops source {ss = s ∷ ss} {bs = b ∷ bs} n m d after e is start lt long h =
    let first : n ≡ m = omega (arith, is) in
    subst (λ t. Stops source n (s ∷ ss) (b ∷ bs) (after ∷ bs) t e) first (here h (same-each (map source.given bs)))
begun-stops source n m d after e is (next g rest) lt long h = behind g (begun-stops source (n + 1) m d after e (omega (arith, is)) rest (omega arith) (omega (arith, long)) h)

-- memory for the list of tables is refused
pub begun-refused : {S : Type 0} (source : Source S) {k : ℕ} {ss : List TableShape} {bs now : List S} {ts : List Columns} (d after : S) → Begun source k ss bs now ts → k < length bs
    → source.given after ≡ source.given (get_or now k d) ++ given_since (source.given (get_or now k d)) (source.given after) → Grew source bs (slice_set now k after)
begun-refused source {bs = []} d after start lt h = absurd (omega arith)
begun-refused source {bs = b ∷ bs} d after start lt h = (h, same-each (map source.given bs))
begun-refused source d after (next g rest) lt h = (g.grows, begun-refused source d after rest (omega arith) h)

pub begun-all : {S : Type 0} (source : Source S) {k : ℕ} {ss : List TableShape} {bs now : List S} {ts : List Columns} → Begun source k ss bs now ts → length ss ≤ k → length bs ≡ length ss → AreLoaded source ss bs now ts
begun-all source {ss = []} {bs = []} start le long = none
begun-all source {ss = []} {bs = b ∷ bs} start le long = absurd (omega (arith, long))
begun-all source {ss = s ∷ ss} start le long = absurd (omega arith)
begun-all source (next h rest) le long = more h (begun-all source rest (omega arith) (omega (arith, long)))

-- ---- the tables from a number on, one for each source

rules-behind : (catalog : List TableShape) (n k : ℕ) → rules_at (drop n catalog) k ≡ rules_at catalog (n + k)
rules-behind [] zero k = refl
rules-behind [] (suc n) k = refl
rules-behind (s ∷ ss) zero k = ap (rules_at (s ∷ ss)) (omega arith)
rules-behind (s ∷ ss) (suc n) k =
    let next : suc (n + k) ≡ suc n + k = omega arith in
    rules-behind ss n k ∙ ap (rules_at (s ∷ ss)) next

rules-first : (shapes : List TableShape) (m k : ℕ) → k < m → rules_at (take m shapes) k ≡ rules_at shapes k
rules-first shapes zero k lt = absurd (omega (arith, lt))
rules-first [] (suc m) k lt = refl
rules-first (s ∷ ss) (suc m) zero lt = refl
rules-first (s ∷ ss) (suc m) (suc k) lt = rules-first ss m k (omega (arith, lt))

-- their rules are the catalog's
pub rules-within : (catalog : List TableShape) (n m k : ℕ) → k < m → rules_at catalog (n + k) ≡ rules_at (take m (drop n catalog)) k
rules-within catalog n m k lt = sym (rules-first (drop n catalog) m k lt ∙ rules-behind catalog n k)

-- there are as many as asked for
pub length-within : (catalog : List TableShape) (n m : ℕ) → n + m ≤ length catalog → m ≡ length (take m (drop n catalog))
length-within catalog zero zero le = refl
length-within [] zero (suc m) le = absurd (omega (arith, le))
length-within (s ∷ ss) zero (suc m) le = ap suc (length-within ss zero m (omega (arith, le)))
length-within [] (suc n) m le = absurd (omega (arith, le))
length-within (s ∷ ss) (suc n) m le = length-within ss n m (omega (arith, le))
