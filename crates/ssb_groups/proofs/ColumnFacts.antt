-- How the key of a combination is read in the group columns, and spelt again.
use Rattle.std.proofs.Common.{◌≡◌, ◌∙◌, ◌<◌, ◌≤◌, ◌+◌, ◌++◌, ℕ, zero, suc, Bool, true, true≢false, bytes_eq, cond, get_or, List, [], ◌∷◌, Option, None, Some, Result, Ok, Err, Contains, length, drop, fold, map, slice_get, refl, sym, ap, ap₂, subst, arith, append-nil, append_assoc}
use Rattle.std.specs.Prelude.{IfOk, OnOk, unwrap_or, option_map}
use Rattle.std.specs.List.{list_all, position_or_len}
use Rattle.std.proofs.Math.Dec.{ltb}
use Rattle.std.proofs.lemmas.Bool.{eqb-true, ltb-true, lt-ltb}
use Rattle.std.proofs.lemmas.List.{get_or-map, length-map, same_lists}
use Rattle.std.proofs.lemmas.Option.{same_Some, slice_get-map, slice_get_read, slice_get_within, get_or_from_slice_get, slice_get-get_or}
use Rattle.ssb_terms.specs.declared.rule.ColType.{ColType}
use Rattle.ssb_terms.specs.declared.rule.ColType.TheVariants as kinds
use Rattle.ssb_trees.proofs.Finding.{here}
use Rattle.ssb_trees.proofs.Taken.{both}
use Rattle.ssb_query.specs.declared.column.BoundColumn.{BoundColumn}
use Rattle.ssb_cells.specs.Cell.{Cell, null, number, text}
use Rattle.ssb_cells.specs.Codes.{code_of, texts_of}
use Rattle.ssb_cells.specs.Tables.{Filled, rows_in, cell_in_column, Columns}
use Rattle.ssb_cells.proofs.CodeFacts.{among, place-known}
use Rattle.ssb_conditions.specs.Rows.{IsCombination, cell_by, column_value}
use Rattle.ssb_plan.specs.Inputs.{column_in, column_ref, has_column, is_number, is_of_kind, table_at, values_in, values_of}
use Rattle.ssb_plan.specs.JobShape.{JobShape, from_tables}
use Rattle.ssb_plan.specs.declared.input.ColumnRef.{ColumnRef}
use Rattle.ssb_groups.specs.Keys as keys
use Rattle.ssb_groups.specs.Keys.{AreKept, IsKept, column_values, key_cell, key_columns, key_of, kept_cell, spelt, spelt_cell}
use Rattle.ssb_groups.specs.Refs.{AreCellsOf, HasRow, IsColumn, bound, cell_in, values_at}
use Rattle.ssb_keys.specs.declared.kept.Kept.{Kept}
use Rattle.ssb_keys.specs.declared.kept.Kept.TheVariants as kept

-- an element that was got from a list is there in the same list by another name
pub got-in : {X : Type 0} (xs ys : List X) (k : ℕ) (x : X) → xs ≡ ys → true ≡ ltb k (length xs) → x ≡ get_or xs k x → slice_get ys k ≡ Some x
got-in xs ys k x same within is = rw same at (slice_get_read xs (length xs) k x refl (ltb-true k (length xs) (sym within)) is)

-- the table that stands there
pub table-here : (tables : List Columns) (n : ℕ) (t : Columns) → n < length tables → t ≡ get_or tables n t → table_at tables n ≡ t
table-here tables n t within is = ap (λ o. unwrap_or o []) (slice_get_read tables (length tables) n t refl within is)

-- the values of the column that stands there
pub values-here : (tables : List Columns) (column : Option ColumnRef) (r : ColumnRef) (t : Columns) (f : Filled) → column ≡ Some r → table_at tables r.table ≡ t → slice_get t r.column ≡ Some f → values_at tables column ≡ f.values
values-here tables column r t f is here at = ap (values_at tables) is ∙ ap (λ (xs : Columns). values_in (slice_get xs r.column)) here ∙ ap values_in at

-- ---- what stands for a value spells it

-- a value of a column is kept as a cell that spells it
abbrev pub Respells : List Cell → Cell → Type 0
Respells values v = (spelt_cell values (kept_cell values v) ≡ v) × IsKept values (kept_cell values v)

respells-text : (values : List Cell) (t : List ℕ) → Contains values (text t) → Respells values (text t)
respells-text values t has =
    let known = place-known (texts_of values) t ((among values t).1 has) in
    let code : code_of values t ≡ Some (position_or_len (bytes_eq t) (texts_of values)) = ap (λ b. cond b (Some (position_or_len (bytes_eq t) (texts_of values))) None) (lt-ltb _ _ known.0) in
    rw code (ap text known.1, known.0)

pub respells : (values : List Cell) (i : ℕ) (v : Cell) → slice_get values i ≡ Some v → Respells values v
respells values i null e = (refl, tt)
respells values i (number n) e = (refl, tt)
respells values i (text t) e = respells-text values t (i, slice_get_within values i (text t) e, get_or_from_slice_get values i (text t) (text t) e)

respells-at : (values : List Cell) (i : ℕ) (v : Option Cell) → slice_get values i ≡ v → Respells values (unwrap_or v null)
respells-at values i None e = (refl, tt)
respells-at values i (Some v) e = respells values i v e

respells-in : (f : Option Filled) (i : ℕ) → Respells (values_in f) (unwrap_or (cell_in_column f i) null)
respells-in None i = (refl, tt)
respells-in (Some f) i = respells-at f.values i (slice_get f.values i) refl

pub respells-by : (t : Option Columns) (column : ℕ) (row : Option ℕ) → Respells (values_in (keys.column_in t column)) (cell_by t column row)
respells-by None column row = (refl, tt)
respells-by (Some t) column None = (refl, tt)
respells-by (Some t) column (Some r) = respells-in (slice_get t column) r

respells-each : (tables : List Columns) (rows : List ℕ) (xs : List BoundColumn) → (spelt (map (column_values tables) xs) (map (key_cell tables rows) xs) ≡ map (column_value tables rows) xs) × AreKept (map (column_values tables) xs) (map (key_cell tables rows) xs)
respells-each tables rows [] = (refl, tt)
respells-each tables rows (x ∷ xs) =
    let one = respells-by (slice_get tables x.table) x.column (slice_get rows x.table) in
    let rest = respells-each tables rows xs in
    (ap₂ (λ c cs. c ∷ cs) one.0 rest.0, (one.1, rest.1))

-- the key of a combination spells the values of the group columns
pub key-spelt : (j : JobShape) (rows : List ℕ) → spelt (key_columns j) (key_of j rows) ≡ map (column_value (from_tables j) rows) j.query.groups
key-spelt j rows = (respells-each (from_tables j) rows j.query.groups).0

pub key-kept : (j : JobShape) (rows : List ℕ) → AreKept (key_columns j) (key_of j rows)
key-kept j rows = (respells-each (from_tables j) rows j.query.groups).1

-- ---- the cells of a column

pub text-cell : (values : List Cell) (t : List ℕ) → Contains values (text t) → texts_of values ≡ [] → ⊥
text-cell values t has none = let known = place-known (texts_of values) t ((among values t).1 has) in let short = ap length none in omega (arith, known.0, short)

-- ---- where the columns stand

-- a combination has a row of each table
row-there : (ts : List Columns) (rows : List ℕ) (i : ℕ) (t : Columns) → IsCombination ts rows → slice_get ts i ≡ Some t → (r : ℕ) × (slice_get rows i ≡ Some r) × (r < rows_in t)
row-there [] rows i t c e = cc
row-there (u ∷ ts) [] i t c e = absurd c
row-there (u ∷ ts) (r ∷ rows) zero t c e = (r, refl, subst (λ v. r < rows_in v) (same_Some u t e) c.0)
row-there (u ∷ ts) (r ∷ rows) (suc i) t c e = row-there ts rows i t c.1 e

number-is : (n : ℕ) (o : Option ℕ) → is_number n o ≡ true → o ≡ Some n
number-is n None h = absurd (true≢false (sym h))
number-is n (Some m) h = ap Some (eqb-true m n h)

-- the table at a number, and a column there
found-in : (kind : ColType) (tables : List Columns) (r : ColumnRef) (t : Option Columns) → slice_get tables r.table ≡ t → is_of_kind kind (column_in t r) ≡ true → IsColumn tables r
found-in kind tables r None e h = absurd (true≢false (sym h))
found-in kind tables r (Some t) e h = record {
  table = slice_get_within tables r.table t e;
  column = subst (λ (o : Option Columns). r.column < length (unwrap_or o [])) (sym e) (inside (slice_get t r.column) refl h);
}
  where
    inside : (f : Option Filled) → slice_get t r.column ≡ f → is_of_kind kind f ≡ true → r.column < length t
    inside None g h = absurd (true≢false (sym h))
    inside (Some f) g h = slice_get_within t r.column f g

same-in : (f : Option Filled) (r : ℕ) → unwrap_or (slice_get (values_in f) r) null ≡ unwrap_or (cell_in_column f r) null
same-in None r = refl
same-in (Some f) r = refl

same-by : (t : Columns) (column r : ℕ) (row : Option ℕ) → row ≡ Some r → unwrap_or (slice_get (values_in (slice_get t column)) (unwrap_or row 0)) null ≡ cell_by (Some t) column row
same-by t column r row e = rw e (same-in (slice_get t column) r)

-- a column that the job has
module _ (j : JobShape) (r : ColumnRef) (has : has_column j.query j.tables r ≡ true) where
  pub place-there : IsColumn j.tables r
  place-there = found-in r.kind j.tables r (slice_get j.tables r.table) refl (both (is_number r.table (slice_get j.query.from r.place)) (is_of_kind r.kind (column_in (slice_get j.tables r.table) r)) has).1

  from-at : slice_get (from_tables j) r.place ≡ Some (table_at j.tables r.table)
  from-at =
      slice_get-map (table_at j.tables) j.query.from r.place
      ∙ ap (option_map (table_at j.tables)) (number-is r.table (slice_get j.query.from r.place) (both (is_number r.table (slice_get j.query.from r.place)) (is_of_kind r.kind (column_in (slice_get j.tables r.table) r)) has).0)

  -- its values are the column's
  pub place-values : values_of j.tables r ≡ column_values (from_tables j) (bound r)
  place-values = sym (ap (λ (t : Option Columns). values_in (keys.column_in t r.column)) from-at)

  pub place-row : (rows : List ℕ) → IsCombination (from_tables j) rows → HasRow j.tables rows r
  place-row rows c =
      let (n, at, below) = row-there (from_tables j) rows r.place (table_at j.tables r.table) c from-at in
      record { place = slice_get_within rows r.place n at; row = subst (λ o. unwrap_or o 0 < rows_in (table_at j.tables r.table)) (sym at) below }

  -- a cell there is that of its column
  pub place-cell : (rows : List ℕ) → IsCombination (from_tables j) rows → cell_in j.tables rows r ≡ key_cell (from_tables j) rows (bound r)
  place-cell rows c =
      let (n, at, below) = row-there (from_tables j) rows r.place (table_at j.tables r.table) c from-at in
      ap (kept_cell (values_of j.tables r)) (same-by (table_at j.tables r.table) r.column n (slice_get rows r.place) at) ∙ sym (ap in-table from-at)
    where
      in-table : Option Columns → Kept
      in-table t = kept_cell (values_in (keys.column_in t r.column)) (cell_by t r.column (slice_get rows r.place))

-- ---- all columns

-- each of the columns is there
pub each-there : (has : ColumnRef → Bool) (rs : List ColumnRef) (i : ℕ) (r : ColumnRef) → list_all has rs ≡ true → slice_get rs i ≡ Some r → has r ≡ true
each-there has [] i r h e = cc
each-there has (q ∷ rs) zero r h e = subst (λ x. has x ≡ true) (same_Some q r e) (both (has q) (list_all has rs) h).0
each-there has (q ∷ rs) (suc i) r h e = each-there has rs i r (both (has q) (list_all has rs) h).1 e

module _ (j : JobShape) where
  -- the cells are the key
  pub place-cells : (rows : List ℕ) (xs : List BoundColumn) → list_all (has_column j.query j.tables) (map (column_ref j.query) xs) ≡ true → IsCombination (from_tables j) rows
      → map (cell_in j.tables rows) (map (column_ref j.query) xs) ≡ map (key_cell (from_tables j) rows) xs
  place-cells rows [] h c = refl
  place-cells rows (x ∷ xs) h c =
      let k = both (has_column j.query j.tables (column_ref j.query x)) (list_all (has_column j.query j.tables) (map (column_ref j.query) xs)) h in
      ap₂ (λ k ks. k ∷ ks) (place-cell j (column_ref j.query x) k.0 rows c) (place-cells rows xs k.1 c)

  -- the columns of keys are those
  place-columns : (xs : List BoundColumn) → list_all (has_column j.query j.tables) (map (column_ref j.query) xs) ≡ true → map (values_of j.tables) (map (column_ref j.query) xs) ≡ map (column_values (from_tables j)) xs
  place-columns [] h = refl
  place-columns (x ∷ xs) h =
      let k = both (has_column j.query j.tables (column_ref j.query x)) (list_all (has_column j.query j.tables) (map (column_ref j.query) xs)) h in
      ap₂ (λ k ks. k ∷ ks) (place-values j (column_ref j.query x) k.0) (place-columns xs k.1)

  pub column-at : list_all (has_column j.query j.tables) (map (column_ref j.query) j.query.groups) ≡ true → (i : ℕ) (r : ColumnRef) → slice_get (map (column_ref j.query) j.query.groups) i ≡ Some r → slice_get (key_columns j) i ≡ Some (values_of j.tables r)
  column-at h i r at =
      ap (λ cs. slice_get cs i) (sym (place-columns j.query.groups h)) ∙ slice_get-map (values_of j.tables) (map (column_ref j.query) j.query.groups) i ∙ ap (option_map (values_of j.tables)) at

-- ---- one cell after the other

pub kept-length : (columns : List (List Cell)) (cells : List Kept) → AreKept columns cells → length cells ≡ length columns
kept-length [] [] h = refl
kept-length [] (c ∷ cs) h = absurd h
kept-length (v ∷ vs) [] h = absurd h
kept-length (v ∷ vs) (c ∷ cs) h = let rest = kept-length vs cs h.1 in omega (arith, rest)

pub kept-at : (columns : List (List Cell)) (cells : List Kept) (i : ℕ) (v : List Cell) (c : Kept) → AreKept columns cells → slice_get columns i ≡ Some v → slice_get cells i ≡ Some c → IsKept v c
kept-at [] cells i v c h at here = cc
kept-at (u ∷ vs) [] i v c h at here = cc
kept-at (u ∷ vs) (d ∷ cs) zero v c h at here = subst (λ w. IsKept w c) (same_Some u v at) (subst (IsKept u) (same_Some d c here) h.0)
kept-at (u ∷ vs) (d ∷ cs) (suc i) v c h at here = kept-at vs cs i v c h.1 at here

pub spelt-at : (columns : List (List Cell)) (cells : List Kept) (i next : ℕ) (v : List Cell) (c : Kept) → next ≡ i + 1 → slice_get columns i ≡ Some v → slice_get cells i ≡ Some c
    → spelt (drop i columns) (drop i cells) ≡ spelt_cell v c ∷ spelt (drop next columns) (drop next cells)
spelt-at [] cells i next v c e at here = cc
spelt-at (u ∷ vs) [] i next v c e at here = cc
spelt-at (u ∷ vs) (d ∷ cs) zero next v c e at here = rw e (ap₂ (λ w k. spelt_cell w k ∷ spelt vs cs) (same_Some u v at) (same_Some d c here))
spelt-at (u ∷ vs) (d ∷ cs) (suc i) zero v c e at here = absurd (omega arith)
spelt-at (u ∷ vs) (d ∷ cs) (suc i) (suc next) v c e at here = spelt-at vs cs i next v c (omega arith) at here

none-left : {X : Type 0} (xs : List X) (i : ℕ) → length xs ≤ i → drop i xs ≡ []
none-left [] zero le = refl
none-left [] (suc i) le = refl
none-left (x ∷ xs) zero le = absurd (omega arith)
none-left (x ∷ xs) (suc i) le = none-left xs i (omega arith)

-- all is folded
pub folded : {X Y Z : Type 0} (g : Z → Y → Z) (f : X → Y) (xs : List X) (i : ℕ) (z all : Z) → length xs ≤ i → fold g z (map f (drop i xs)) ≡ all → z ≡ all
folded {X} g f xs i z all past e = sym (ap (λ (ys : List X). fold g z (map f ys)) (none-left xs i past)) ∙ e

-- one more is folded
pub folded-more : {X Y Z : Type 0} (g : Z → Y → Z) (f : X → Y) (xs : List X) (i : ℕ) (x : X) (z w all : Z) → i < length xs → x ≡ get_or xs i x → w ≡ g z (f x) → fold g z (map f (drop i xs)) ≡ all → fold g w (map f (drop (i + 1) xs)) ≡ all
folded-more {X} g f xs i x z w all lt is next e = ap (λ v. fold g v (map f (drop (i + 1) xs))) next ∙ sym (ap (λ (ys : List X). fold g z (map f ys)) (here xs i x lt is)) ∙ e

-- what is made of all is made
pub mapped : {X Y : Type 0} (f : X → Y) (made : List Y) (xs : List X) (i : ℕ) → length xs ≤ i → made ++ map f (drop i xs) ≡ map f xs → made ≡ map f xs
mapped {X} {Y} f made xs i past e = sym (append-nil made) ∙ ap (λ (ys : List X). made ++ map f ys) (sym (none-left xs i past)) ∙ e

-- one more is made
pub mapped-more : {X Y : Type 0} (f : X → Y) (made : List Y) (xs : List X) (i : ℕ) (x : X) (y : Y) → i < length xs → x ≡ get_or xs i x → y ≡ f x → made ++ map f (drop i xs) ≡ map f xs → (made ++ y ∷ []) ++ map f (drop (i + 1) xs) ≡ map f xs
mapped-more {X} f made xs i x y lt is image e =
    append_assoc made (y ∷ []) (map f (drop (i + 1) xs)) ∙ ap (λ ys. made ++ ys) (ap (λ z. z ∷ map f (drop (i + 1) xs)) image ∙ sym (ap (λ (ys : List X). map f ys) (here xs i x lt is))) ∙ e

-- a key's cell at a place
pub cell-there : (columns : List (List Cell)) (cells : List Kept) (i : ℕ) → AreKept columns cells → i < length columns → i < length cells
cell-there columns cells i is lt = let same = kept-length columns cells is in omega (arith, same, lt)

-- ---- at one of the group columns

-- the column of no table
abbrev pub nowhere : ColumnRef
nowhere = record { place = 0; table = 0; column = 0; kind = kinds.Int }

-- at this number stand a column of the tables, and a cell of the key
pub record IsAt (j : JobShape) (tables : List Columns) (cells key : List Kept) (i : ℕ) (r : ColumnRef) : Type 0 where
  pub there : IsColumn tables r
  pub column : slice_get (key_columns j) i ≡ Some (values_of tables r)
  pub below : i < length cells
  pub cell : slice_get key i ≡ Some (get_or cells i kept.Null)

pub is-at : (j : JobShape) (tables : List Columns) (rs : List ColumnRef) (cells key : List Kept) (i : ℕ)
    → tables ≡ j.tables → rs ≡ map (column_ref j.query) j.query.groups → list_all (has_column j.query j.tables) rs ≡ true → cells ≡ key → AreKept (key_columns j) key → i < length rs → IsAt j tables cells key i (get_or rs i nowhere)
is-at j tables rs cells key i t ks has cs all lt = record {
  there = subst (λ ts. IsColumn ts r) (sym t) (place-there j r (each-there (has_column j.query j.tables) rs i r has here));
  column = column;
  below = subst (λ ks. i < length ks) (sym cs) inside;
  cell = slice_get-get_or key i kept.Null inside ∙ ap (λ ks. Some (get_or ks i kept.Null)) (sym cs);
}
  where
    r : ColumnRef
    r = get_or rs i nowhere

    here : slice_get rs i ≡ Some r
    here = slice_get-get_or rs i nowhere lt

    column : slice_get (key_columns j) i ≡ Some (values_of tables r)
    column = column-at j (subst (λ xs. list_all (has_column j.query j.tables) xs ≡ true) ks has) i r (ap (λ xs. slice_get xs i) (sym ks) ∙ here) ∙ ap (λ ts. Some (values_of ts r)) (sym t)

    inside : i < length key
    inside = cell-there (key_columns j) key i all (slice_get_within (key_columns j) i _ column)

-- ---- the cells of a block

read-one : (values : List Cell) (o : Option Cell) (x : Kept) → option_map (kept_cell values) o ≡ Some x → kept_cell values (unwrap_or o null) ≡ x
read-one values None x e = cc
read-one values (Some v) x e = same_Some (kept_cell values v) x e

-- what is read of the rows of one table is what stands there in each combination
pub cells-of-block : (tables : List Columns) (r : ColumnRef) (block : List (List ℕ)) (rows : List ℕ) (cells : List Kept) → ((at : ℕ) (row : List ℕ) → slice_get block at ≡ Some row → unwrap_or (slice_get row r.place) 0 ≡ get_or rows at 0)
    → AreCellsOf (values_of tables r) rows (length block) cells → cells ≡ map (λ row. cell_in tables row r) block
cells-of-block tables r block rows cells there are =
    same_lists cells (map (λ row. cell_in tables row r) block) (are.many ∙ sym (length-map block (λ row. cell_in tables row r))) (λ k d lt.
    let many = are.many in
    let below : k < length block = omega (arith, lt, many) in
    let row = get_or block k [] in
    let at : slice_get block k ≡ Some row = slice_get-get_or block k [] below in
    get-same cells k d lt
    ∙ sym (read-one (values_of tables r) (slice_get (values_of tables r) (get_or rows k 0)) (get_or cells k kept.Null) (are.each k below))
    ∙ ap (λ n. kept_cell (values_of tables r) (unwrap_or (slice_get (values_of tables r) n) null)) (sym (there k row at))
    ∙ sym (get_or-map (λ x. cell_in tables x r) block k [] d below))
  where
    get-same : (xs : List Kept) (k : ℕ) (d : Kept) → k < length xs → get_or xs k d ≡ get_or xs k kept.Null
    get-same [] k d lt = absurd (omega (arith, lt))
    get-same (x ∷ xs) zero d lt = refl
    get-same (x ∷ xs) (suc k) d lt = get-same xs k d (omega (arith, lt))

pub if-ok : {X E : Type 0} (r : Result X E) (P Q R : X → Type 0) → ((x : X) → P x → Q x → R x) → IfOk r P → IfOk r Q → IfOk r R
if-ok (Ok x) P Q R f p q = f x p q
if-ok (Err x) P Q R f p q = tt

pub ok-map : {X E : Type 0} (r : Result X E) (P Q : Type 0) → (P → Q) → OnOk r P → OnOk r Q
ok-map (Ok x) P Q f h = f h
ok-map (Err x) P Q f h = tt
