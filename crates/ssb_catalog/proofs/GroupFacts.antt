-- The tables of one record more.
use Rattle.std.proofs.Common.{◌≡◌, ◌∙◌, ◌++◌, ◌||◌, ℕ, Bool, true, false, cond, not, List, [], ◌∷◌, map, inl, inr, refl, ap}
use Rattle.std.specs.List.{AllByRecursion, IsDistinct, filter, list_any}
use Rattle.std.specs.Str.{bytes_eq}
use Rattle.std.proofs.lemmas.Bool.{cases_Bool, or_parts}
use Rattle.std.proofs.lemmas.Cmp.{nat_list_eq_equiv}
use Rattle.std.proofs.lemmas.List.{append-nil, map-append}
use Rattle.std.proofs.lemmas.List.Elements.{filter-append}
use Rattle.std.proofs.lemmas.Map.Views.{any-filter_same}
use Rattle.std.proofs.lemmas.Map.Keys.{IsDistinct-head, IsDistinct-tail, IsDistinct-cons}
use Rattle.ssb_records.specs.Records.{Fields}
use Rattle.ssb_catalog.specs.Shapes.{TableShape}
use Rattle.ssb_catalog.specs.Catalog.{column_in, columns_in, firsts, is_table_named, table_in, table_names, tables_in}
use Rattle.ssb_catalog.specs.Drafting.{with_column}
use Rattle.ssb_catalog.specs.declared.catalog.ColumnDef.{ColumnDef}
use Rattle.ssb_catalog.proofs.PlaceFacts.{put-none}

-- equal words are the same to every word
same-apart : (x y z : List ℕ) → bytes_eq x y ≡ true → bytes_eq y z ≡ false → bytes_eq x z ≡ false
same-apart x y z same apart = nat_list_eq_equiv.congr x y z same ∙ apart

flipped : (x y : List ℕ) (b : Bool) → bytes_eq x y ≡ b → bytes_eq y x ≡ b
flipped x y b e = nat_list_eq_equiv.symm y x ∙ e

-- each word once, at its first place

-- no other word is lost with a word
others-keep : (x y : List ℕ) → bytes_eq x y ≡ false → (k : List ℕ) → bytes_eq x k ≡ true → not (bytes_eq y k) ≡ true
others-keep x y apart k same = rw (flipped k y false (same-apart k x y (flipped x k true same) apart)) refl

pub firsts-has : (x : List ℕ) (xs : List (List ℕ)) → list_any (bytes_eq x) (firsts xs) ≡ list_any (bytes_eq x) xs
firsts-has x [] = refl
firsts-has x (y ∷ ys) =
    elim (cases_Bool (bytes_eq x y)) [
      | inl same ↦ rw same refl
      | inr apart ↦
          rw (apart, any-filter_same (bytes_eq x) (λ k. not (bytes_eq y k)) true (others-keep x y apart) (firsts ys)) (firsts-has x ys)
    ]

keep-push : (x y : List ℕ) (zs : List (List ℕ)) → filter (λ k. not (bytes_eq y k)) (zs ++ x ∷ []) ≡ filter (λ k. not (bytes_eq y k)) zs ++ cond (not (bytes_eq y x)) (x ∷ []) []
keep-push x y zs = filter-append (λ k. not (bytes_eq y k)) zs (x ∷ [])

push-by : (x y : List ℕ) (ys zs : List (List ℕ)) (m : Bool) → zs ≡ cond m (firsts ys) (firsts ys ++ x ∷ [])
    → y ∷ filter (λ k. not (bytes_eq y k)) zs ≡ cond (bytes_eq x y || m) (firsts (y ∷ ys)) (firsts (y ∷ ys) ++ x ∷ [])
push-by x y ys zs true is =
    elim (cases_Bool (bytes_eq x y)) [
      | inl same ↦ rw (same, is) refl
      | inr apart ↦ rw (apart, is) refl
    ]
push-by x y ys zs false is =
    elim (cases_Bool (bytes_eq x y)) [
      | inl same ↦ rw (is, keep-push x y (firsts ys), same, flipped x y true same, append-nil) refl
      | inr apart ↦ rw (is, keep-push x y (firsts ys), apart, flipped x y false apart) refl
    ]

pub firsts-push : (x : List ℕ) (xs : List (List ℕ)) → firsts (xs ++ x ∷ []) ≡ cond (list_any (bytes_eq x) xs) (firsts xs) (firsts xs ++ x ∷ [])
firsts-push x [] = refl
firsts-push x (y ∷ ys) = push-by x y ys (firsts (ys ++ x ∷ [])) (list_any (bytes_eq x) ys) (firsts-push x ys)

-- what holds of each of a list holds of each that passes a test
all-filter : {X : Type 0} (P : X → Type 0) (p : X → Bool) (xs : List X) → AllByRecursion P xs → AllByRecursion P (filter p xs)
all-filter P p [] h = tt
all-filter P p (x ∷ xs) h =
    elim (cases_Bool (p x)) [
      | inl passes ↦ rw passes (h.0, all-filter P p xs h.1)
      | inr fails ↦ rw fails (all-filter P p xs h.1)
    ]

apart-filter : (p : List ℕ → Bool) (xs : List (List ℕ)) → IsDistinct bytes_eq xs → IsDistinct bytes_eq (filter p xs)
apart-filter p [] h = h
apart-filter p (x ∷ xs) h =
    let head = IsDistinct-head bytes_eq x xs h in
    let tail = apart-filter p xs (IsDistinct-tail bytes_eq x xs h) in
    elim (cases_Bool (p x)) [
      | inl passes ↦ rw passes (IsDistinct-cons bytes_eq x (filter p xs) (all-filter (λ y. bytes_eq x y ≡ false) p xs head) tail)
      | inr fails ↦ rw fails tail
    ]

not-true : (b : Bool) → not b ≡ true → b ≡ false
not-true true e = cc e
not-true false e = refl

all-apart : (x : List ℕ) (xs : List (List ℕ)) → AllByRecursion (λ y. bytes_eq x y ≡ false) (filter (λ y. not (bytes_eq x y)) xs)
all-apart x [] = tt
all-apart x (y ∷ ys) =
    elim (cases_Bool (bytes_eq x y)) [
      | inl same ↦ rw same (all-apart x ys)
      | inr apart ↦ rw apart (apart, all-apart x ys)
    ]

pub firsts-apart : (xs : List (List ℕ)) → IsDistinct bytes_eq (firsts xs)
unfolding IsDistinct
firsts-apart [] = tt
firsts-apart (x ∷ xs) = (all-apart x (firsts xs), apart-filter (λ y. not (bytes_eq x y)) (firsts xs) (firsts-apart xs))

-- tables by their names

abbrev tables_by : (List ℕ → List ColumnDef) → List (List ℕ) → List TableShape
tables_by f ns = map (λ name. record { name = name; columns = f name }) ns

-- the table of a name has one column more
record AddsTo (f g : List ℕ → List ColumnDef) (x : List ℕ) (c : ColumnDef) : Type 0 where
  adds : (n : List ℕ) → g n ≡ f n ++ cond (bytes_eq n x) (c ∷ []) []

others-same : (f g : List ℕ → List ColumnDef) (x : List ℕ) (c : ColumnDef) (ns : List (List ℕ)) → AddsTo f g x c → AllByRecursion (λ n. bytes_eq n x ≡ false) ns → tables_by f ns ≡ tables_by g ns
others-same f g x c [] h apart = refl
others-same f g x c (n ∷ ns) h apart =
    let e : g n ≡ f n = h.adds n ∙ (rw (apart.0, append-nil) refl) in
    rw (e, others-same f g x c ns h apart.1) refl

all-flipped : (n x : List ℕ) (ns : List (List ℕ)) → bytes_eq x n ≡ true → AllByRecursion (λ m. bytes_eq n m ≡ false) ns → AllByRecursion (λ m. bytes_eq m x ≡ false) ns
all-flipped n x [] same h = tt
all-flipped n x (m ∷ ms) same h = (flipped x m false (same-apart x n m same h.0), all-flipped n x ms same h.1)

put-found : (f g : List ℕ → List ColumnDef) (x : List ℕ) (c : ColumnDef) (ns : List (List ℕ)) → AddsTo f g x c → IsDistinct bytes_eq ns → list_any (bytes_eq x) ns ≡ true
    → with_column (tables_by f ns) x c ≡ tables_by g ns
put-found f g x c [] h apart has = cc has
put-found f g x c (n ∷ ns) h apart has =
    elim (cases_Bool (bytes_eq x n)) [
      | inl same ↦ (
          let e : g n ≡ f n ++ c ∷ [] = h.adds n ∙ (rw (flipped x n true same) refl) in
          rw (same, e, others-same f g x c ns h (all-flipped n x ns same (IsDistinct-head bytes_eq n ns apart))) refl)
      | inr other ↦ (
          let e : g n ≡ f n = h.adds n ∙ (rw (flipped x n false other, append-nil) refl) in
          let rest = put-found f g x c ns h (IsDistinct-tail bytes_eq n ns apart) (rw other at has) in
          rw (other, e, rest) refl)
    ]

all-other : (x : List ℕ) (ns : List (List ℕ)) → list_any (bytes_eq x) ns ≡ false → AllByRecursion (λ n. bytes_eq n x ≡ false) ns
all-other x [] none = tt
all-other x (n ∷ ns) none = let h = or_parts (bytes_eq x n) (list_any (bytes_eq x) ns) none in (flipped x n false h.0, all-other x ns h.1)

any-named : (f : List ℕ → List ColumnDef) (x : List ℕ) (ns : List (List ℕ)) → list_any (is_table_named x) (tables_by f ns) ≡ list_any (bytes_eq x) ns
any-named f x [] = refl
any-named f x (n ∷ ns) = ap (λ b. bytes_eq x n || b) (any-named f x ns)

put-new : (f g : List ℕ → List ColumnDef) (x : List ℕ) (c : ColumnDef) (ns : List (List ℕ)) → AddsTo f g x c → list_any (bytes_eq x) ns ≡ false → f x ≡ []
    → with_column (tables_by f ns) x c ≡ tables_by g (ns ++ x ∷ [])
put-new f g x c ns h none empty =
    let e : g x ≡ c ∷ [] = h.adds x ∙ (rw (nat_list_eq_equiv.refl x, empty) refl) in
    put-none (tables_by f ns) x c (any-named f x ns ∙ none) ∙ (rw (map-append, e, others-same f g x c ns h (all-other x ns none)) refl)

-- the columns of one record more
last-column : (r : Fields) (b : Bool) → map column_in (cond b (r ∷ []) []) ≡ cond b (column_in r ∷ []) []
last-column r true = refl
last-column r false = refl

columns-push : (good : List Fields) (r : Fields) → AddsTo (columns_in good) (columns_in (good ++ r ∷ [])) (table_in r) (column_in r)
columns-push good r =
    record {
      adds = λ n. ap (λ rs. map column_in rs) (filter-append (λ s. bytes_eq n (table_in s)) good (r ∷ []))
          ∙ (map-append column_in (filter (λ s. bytes_eq n (table_in s)) good) (cond (bytes_eq n (table_in r)) (r ∷ []) [])
          ∙ ap (λ cs. columns_in good n ++ cs) (last-column r (bytes_eq n (table_in r))));
    }

no-records : (x : List ℕ) (rs : List Fields) → list_any (bytes_eq x) (map table_in rs) ≡ false → columns_in rs x ≡ []
no-records x [] none = refl
no-records x (r ∷ rs) none = let h = or_parts (bytes_eq x (table_in r)) (list_any (bytes_eq x) (map table_in rs)) none in rw h.0 (no-records x rs h.1)

push-by-names : (good : List Fields) (r : Fields) (m : Bool) → list_any (bytes_eq (table_in r)) (map table_in good) ≡ m
    → with_column (tables_in good) (table_in r) (column_in r) ≡ tables_by (columns_in (good ++ r ∷ [])) (cond m (table_names good) (table_names good ++ table_in r ∷ []))
push-by-names good r true has =
    put-found (columns_in good) (columns_in (good ++ r ∷ [])) (table_in r) (column_in r) (table_names good) (columns-push good r) (firsts-apart (map table_in good)) (firsts-has (table_in r) (map table_in good) ∙ has)
push-by-names good r false none =
    put-new (columns_in good) (columns_in (good ++ r ∷ [])) (table_in r) (column_in r) (table_names good) (columns-push good r) (firsts-has (table_in r) (map table_in good) ∙ none) (no-records (table_in r) good none)

-- a record's column goes into its table
pub tables-push : (good : List Fields) (r : Fields) → with_column (tables_in good) (table_in r) (column_in r) ≡ tables_in (good ++ r ∷ [])
tables-push good r =
    push-by-names good r (list_any (bytes_eq (table_in r)) (map table_in good)) refl ∙ (rw (map-append table_in good (r ∷ []), firsts-push (table_in r) (map table_in good)) refl)
