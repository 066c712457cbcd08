-- What stands for a value of a column is among the column's domain.
use Rattle.std.proofs.Common.{◌≡◌, ◌∙◌, ◌+◌, ◌*◌, ◌/◌, ◌%◌, ◌<◌, ◌≤◌, ◌++◌, ℕ, zero, suc, ℤ, Bool, true, false, List, [], ◌∷◌, Option, None, Some, length, drop, get_or, map, slice_get, take, refl, ap, subst, arith}
use Rattle.std.specs.Prelude.{◌-ℤ◌, if◌then◌else◌, int_lt, unsigned_abs, unwrap_or}
use Rattle.std.specs.List.{list_all}
use Rattle.std.proofs.lemmas.Int.{ints}
use Rattle.std.proofs.Math.Nat.{mul-le-mul_left, mul-le-mul_right}
use Rattle.ssb_terms.specs.declared.rule.ColType.{ColType}
use Rattle.ssb_terms.specs.declared.rule.ColType.TheVariants as kinds
use Rattle.ssb_cells.specs.Cell.{Cell, null, number, text}
use Rattle.ssb_cells.specs.Codes.{code_of}
use Rattle.ssb_cells.specs.Tables.{Filled, Columns}
use Rattle.std.proofs.lemmas.Nat.{div_below}
use Rattle.std.proofs.lemmas.Option.{same_Some}
use Rattle.ssb_keys.specs.Domains.{IsIn, IsLawful, cell, cells, radix, size}
use Rattle.ssb_keys.specs.declared.domain.Domain.{Domain}
use Rattle.ssb_keys.specs.declared.kept.Kept.TheVariants as kept
use Rattle.ssb_plan.specs.Inputs.{has_column, table_at, values_in}
use Rattle.ssb_plan.specs.JobShape.{JobShape}
use Rattle.ssb_plan.specs.Spans.{span_of}
use Rattle.ssb_plan.specs.declared.index.Span.{Span}
use Rattle.ssb_plan.specs.declared.input.ColumnRef.{ColumnRef}
use Rattle.ssb_plan.proofs.SpanFacts.{IsInSpan, in-span}
use Rattle.ssb_groups.specs.Keys.{AreKept, AreLawful, IsKept, IsOfKind, code_cell, domain_by, domain_in, domain_of, kept_cell, kind_in, kind_of, spelt, spelt_cell}
use Rattle.ssb_groups.specs.Refs.{AreAllColumns, IsColumn, cell_in}
use Rattle.ssb_groups.proofs.ColumnFacts.{place-there, respells}
use Rattle.ssb_trees.proofs.Taken.{both}

-- ---- one column

-- each column has a value: null
pub some-radix : (f : Option Filled) → 0 < radix (domain_in f)
some-radix None = omega arith
some-radix (Some f) = by f.kind (span_of f.values)
  where
    of-span : (s : Span) (b : Bool) → 0 < (if b then 1 else unsigned_abs (s.greatest -ℤ s.least) + 2)
    of-span s true = omega arith
    of-span s false = omega arith

    by : (k : ColType) (s : Span) → 0 < radix (domain_by k f.values s)
    by kinds.Text s = omega arith
    by kinds.Int s = of-span s (int_lt s.greatest s.least)

-- null is among each
null-in : (d : Domain) → 0 < radix d → IsIn d kept.Null
null-in d h = h

number-in : (values : List Cell) (n : ℤ) → IsInSpan (span_of values) n → IsIn (domain_by kinds.Int values (span_of values)) (kept.Number n)
number-in values n is = (is.above, by (int_lt (span_of values).greatest (span_of values).least) refl)
  where
    by : (b : Bool) → int_lt (span_of values).greatest (span_of values).least ≡ b → unsigned_abs (n -ℤ (span_of values).least) + 1 < (if b then 1 else unsigned_abs ((span_of values).greatest -ℤ (span_of values).least) + 2)
    by true e = absurd (let above = is.above in let below = is.below in grind (arith, ints))
    by false e = let above = is.above in let below = is.below in omega (arith, ints)

code-in : (values : List Cell) (c : Option ℕ) → IsKept values (code_cell c) → IsIn (domain_by kinds.Text values (span_of values)) (code_cell c)
code-in values None h = omega arith
code-in values (Some c) h = omega (arith, h)

value-in : (f : Filled) (i : ℕ) (v : Cell) → slice_get f.values i ≡ Some v → IsOfKind f.kind (kept_cell f.values v) → IsIn (domain_by f.kind f.values (span_of f.values)) (kept_cell f.values v)
value-in f i null e h = some-radix (Some f)
value-in f i (number n) e h = by f.kind h
  where
    by : (k : ColType) → IsOfKind k (kept.Number n) → IsIn (domain_by k f.values (span_of f.values)) (kept.Number n)
    by kinds.Text h = absurd h
    by kinds.Int h = number-in f.values n (in-span f.values i n e)
value-in f i (text t) e h = by f.kind (code_of f.values t) h (respells f.values i (text t) e).1
  where
    by : (k : ColType) (c : Option ℕ) → IsOfKind k (code_cell c) → IsKept f.values (code_cell c) → IsIn (domain_by k f.values (span_of f.values)) (code_cell c)
    by kinds.Int None h is = some-int (int_lt (span_of f.values).greatest (span_of f.values).least)
      where
        some-int : (b : Bool) → 0 < (if b then 1 else unsigned_abs ((span_of f.values).greatest -ℤ (span_of f.values).least) + 2)
        some-int true = omega arith
        some-int false = omega arith
    by kinds.Int (Some c) h is = absurd h
    by kinds.Text c h is = code-in f.values c is

read-in : (f : Option Filled) (i : ℕ) → IsOfKind (kind_in f) (kept_cell (values_in f) (unwrap_or (slice_get (values_in f) i) null)) → IsIn (domain_in f) (kept_cell (values_in f) (unwrap_or (slice_get (values_in f) i) null))
read-in None i h = omega arith
read-in (Some f) i h = by (slice_get f.values i) refl h
  where
    by : (v : Option Cell) → slice_get f.values i ≡ v → IsOfKind f.kind (kept_cell f.values (unwrap_or v null)) → IsIn (domain_in (Some f)) (kept_cell f.values (unwrap_or v null))
    by None e h = some-radix (Some f)
    by (Some v) e h = value-in f i v e h

-- what is read of a column is among its domain
pub cell-is-in : (tables : List Columns) (rows : List ℕ) (r : ColumnRef) → IsOfKind (kind_of tables r) (cell_in tables rows r) → IsIn (domain_of tables r) (cell_in tables rows r)
cell-is-in tables rows r h = read-in (slice_get (table_at tables r.table) r.column) (unwrap_or (slice_get rows r.place) 0) h

-- ---- several columns

pub size-append : (ds : List Domain) (d : Domain) → size (ds ++ d ∷ []) ≡ size ds * radix d
size-append [] d = omega arith
size-append (e ∷ ds) d = let rest = size-append ds d in ap (λ n. radix e * n) rest ∙ omega arith

-- there is a key of the columns that are left
pub some-size : (tables : List Columns) (rs : List ColumnRef) → 0 < size (map (domain_of tables) rs)
some-size tables [] = omega arith
some-size tables (r ∷ rs) =
    let rest = some-size tables rs in
    let one = some-radix (slice_get (table_at tables r.table) r.column) in
    let more : 1 * 1 ≤ radix (domain_of tables r) * size (map (domain_of tables) rs) = mul-le tables r rs one rest in
    omega (arith, more)
  where
    mul-le : (tables : List Columns) (r : ColumnRef) (rs : List ColumnRef) → 0 < radix (domain_of tables r) → 0 < size (map (domain_of tables) rs) → 1 * 1 ≤ radix (domain_of tables r) * size (map (domain_of tables) rs)
    mul-le tables r rs one rest = let a : 1 * size (map (domain_of tables) rs) ≤ radix (domain_of tables r) * size (map (domain_of tables) rs) = mul-le-mul_right (size (map (domain_of tables) rs)) (omega (arith, one)) in omega (arith, a, rest)

-- a column more makes no fewer keys
pub no-fewer : (tables : List Columns) (ds : List Domain) (rs : List ColumnRef) → size ds ≤ size (ds ++ map (domain_of tables) rs)
no-fewer tables [] rs = let some = some-size tables rs in omega (arith, some)
no-fewer tables (d ∷ ds) rs = mul-le-mul_left (radix d) (no-fewer tables ds rs)

-- columns that are there
pub all-there : (j : JobShape) (rs : List ColumnRef) → list_all (has_column j.query j.tables) rs ≡ true → AreAllColumns j.tables rs
all-there j [] h = tt
all-there j (r ∷ rs) h =
    let k = both (has_column j.query j.tables r) (list_all (has_column j.query j.tables) rs) h in
    (place-there j r k.0, all-there j rs k.1)

pub all-at : (tables : List Columns) (rs : List ColumnRef) (i : ℕ) (r : ColumnRef) → AreAllColumns tables rs → i < length rs → IsColumn tables (get_or rs i r)
all-at tables [] i r h lt = absurd (omega (arith, lt))
all-at tables (q ∷ rs) zero r h lt = h.0
all-at tables (q ∷ rs) (suc i) r h lt = all-at tables rs i r h.1 (omega (arith, lt))

module _ (tables : List Columns) where
  -- the columns before one, the one, and those after it
  parts : (rs : List ColumnRef) (i : ℕ) (r : ColumnRef) → i < length rs
      → map (domain_of tables) rs ≡ (map (domain_of tables) (take i rs) ++ domain_of tables (get_or rs i r) ∷ []) ++ map (domain_of tables) (drop (suc i) rs)
  parts [] i r lt = absurd (omega (arith, lt))
  parts (q ∷ rs) zero r lt = refl
  parts (q ∷ rs) (suc i) r lt = ap (λ ds. domain_of tables q ∷ ds) (parts rs i r (omega (arith, lt)))

  -- there are as many keys of all columns as of the first ones and one more
  pub first-fewer : (rs : List ColumnRef) (i n : ℕ) (r : ColumnRef) → i < length rs → n ≡ size (map (domain_of tables) (take i rs)) → n * radix (domain_of tables (get_or rs i r)) ≤ size (map (domain_of tables) rs)
  first-fewer rs i n r lt is =
      let front = map (domain_of tables) (take i rs) in
      let d = domain_of tables (get_or rs i r) in
      let few = no-fewer tables (front ++ d ∷ []) (drop (suc i) rs) in
      let whole = ap size (parts rs i r lt) in
      let one = size-append front d in
      let same = ap (λ m. m * radix d) is in
      omega (arith, few, whole, one, same)

  -- one column alone has more than there may be
  pub one-more-than : (rs : List ColumnRef) (i n m : ℕ) (r : ColumnRef) → i < length rs → n ≡ size (map (domain_of tables) (take i rs)) → m < radix (domain_of tables (get_or rs i r)) → m < size (map (domain_of tables) rs)
  one-more-than rs i n m r lt is more =
      let few = first-fewer rs i n r lt is in
      let some = some-size tables (take i rs) in
      let d = domain_of tables (get_or rs i r) in
      let times : 1 * radix d ≤ n * radix d = mul-le-mul_right (radix d) (omega (arith, some, is)) in
      omega (arith, few, times, more)

-- ---- their numbers are those of an `int`

pub lawful-append : (ds : List Domain) (d : Domain) → AreLawful ds → IsLawful d → AreLawful (ds ++ d ∷ [])
lawful-append [] d h one = (one, tt)
lawful-append (e ∷ ds) d h one = (h.0, lawful-append ds d h.1 one)

pub lawful-at : (ds : List Domain) (i : ℕ) (d : Domain) → AreLawful ds → i < length ds → IsLawful (get_or ds i d)
lawful-at [] i d h lt = absurd (omega (arith, lt))
lawful-at (e ∷ ds) zero d h lt = h.0
lawful-at (e ∷ ds) (suc i) d h lt = lawful-at ds i d h.1 (omega (arith, lt))

-- ---- the values of a number, one after the other

-- what is left of a number stands for the values of the columns from one on
pub record IsLeft (columns : List (List Cell)) (ds : List Domain) (at left : ℕ) : Type 0 where
  pub below : left < size (drop at ds)
  pub kept : AreKept (drop at columns) (cells (drop at ds) left)

-- the value of one column is taken off
pub record TakesOff (columns : List (List Cell)) (ds : List Domain) (at next left : ℕ) (v : List Cell) (d : Domain) : Type 0 where
  pub some : 0 < radix d
  pub kept : IsKept v (cell d (left % radix d))
  pub spelt : spelt (drop at columns) (cells (drop at ds) left) ≡ spelt_cell v (cell d (left % radix d)) ∷ spelt (drop next columns) (cells (drop next ds) (left / radix d))
  pub rest : IsLeft columns ds next (left / radix d)

first-off : (u : List Cell) (us : List (List Cell)) (e : Domain) (es : List Domain) (left : ℕ) → IsLeft (u ∷ us) (e ∷ es) 0 left → TakesOff (u ∷ us) (e ∷ es) 0 1 left u e
first-off u us e es left is =
    let some = some-digit (radix e) (size es) left is.below in
    let turned : radix e * size es ≡ size es * radix e = omega arith in
    record {
      some = some;
      kept = is.kept.0;
      spelt = refl;
      rest = record { below = div_below left (radix e) (size es) some (subst (λ m. left < m) turned is.below); kept = is.kept.1 };
    }
  where
    some-digit : (r s n : ℕ) → n < r * s → 0 < r
    some-digit zero s n h = absurd (omega (arith, h))
    some-digit (suc r) s n h = omega arith

pub takes-off : (columns : List (List Cell)) (ds : List Domain) (at next left : ℕ) (v : List Cell) (d : Domain) → next ≡ at + 1 → slice_get columns at ≡ Some v → at < length ds → IsLeft columns ds at left → TakesOff columns ds at next left v (get_or ds at d)
takes-off [] ds at next left v d n here lt is = cc
takes-off (u ∷ us) [] at next left v d n here lt is = absurd (omega (arith, lt))
takes-off (u ∷ us) (e ∷ es) zero next left v d n here lt is = rw n (subst (λ w. TakesOff (u ∷ us) (e ∷ es) 0 1 left w e) (same_Some u v here) (first-off u us e es left is))
takes-off (u ∷ us) (e ∷ es) (suc at) zero left v d n here lt is = absurd (omega (arith, n))
takes-off (u ∷ us) (e ∷ es) (suc at) (suc next) left v d n here lt is =
    let rest = takes-off us es at next left v d (omega (arith, n)) here (omega (arith, lt)) (record { below = is.below; kept = is.kept }) in
    record { some = rest.some; kept = rest.kept; spelt = rest.spelt; rest = record { below = rest.rest.below; kept = rest.rest.kept } }

-- as many columns as domains
pub as-many-columns : (columns : List (List Cell)) (ds : List Domain) (n : ℕ) → AreKept columns (cells ds n) → length columns ≡ length ds
as-many-columns [] [] n h = refl
as-many-columns [] (d ∷ ds) n h = absurd h
as-many-columns (v ∷ vs) [] n h = absurd h
as-many-columns (v ∷ vs) (d ∷ ds) n h = let rest = as-many-columns vs ds (n / radix d) h.1 in omega (arith, rest)
