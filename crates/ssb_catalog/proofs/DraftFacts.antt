-- Tables that may become a catalog, with one more column.
use Rattle.std.proofs.Common.{◌≡◌, ◌∙◌, ◌+◌, ◌*◌, ◌<◌, ◌≤◌, ◌++◌, ◌||◌, ◌&&◌, ℕ, Bool, true, false, cond, not, List, [], ◌∷◌, length, map, Option, Some, None, inl, inr, refl, sym, ap, arith, length-append}
use Rattle.std.specs.List.{AllByRecursion, IsDistinct, filter, list_any}
use Rattle.std.specs.Prelude.{nat_le}
use Rattle.std.specs.Str.{bytes_eq}
use Rattle.std.proofs.lemmas.Bool.{cases_Bool}
use Rattle.std.proofs.lemmas.Bool.Decides.{nat_tests}
use Rattle.std.proofs.lemmas.Cmp.{nat_list_eq_equiv}
use Rattle.std.proofs.lemmas.List.{append-nil, length-map, map-append}
use Rattle.std.proofs.lemmas.List.Elements.{All-push, All-nil, All-from_recursion, recursion_from_All, filter-append}
use Rattle.std.proofs.lemmas.Map.Keys.{IsDistinct-push}
use Rattle.ssb_catalog.proofs.Choices.{cond-none}
use Rattle.ssb_terms.specs.declared.rule.ColType.{ColType}
use Rattle.ssb_terms.specs.declared.rule.ColType.TheVariants as kinds
use Rattle.ssb_catalog.specs.Shapes.{TableShape, is_int}
use Rattle.ssb_catalog.specs.Catalog.{IsTable, column_fault, columns_named, is_column_named, is_full_for, is_key_column, is_table_named}
use Rattle.ssb_catalog.specs.Drafting.{IsDraft, column_count, put_column, with_column}
use Rattle.ssb_catalog.specs.declared.catalog.ColumnDef.{ColumnDef}
use Rattle.ssb_records.specs.declared.fault.CatalogFault.{CatalogFault}
use Rattle.ssb_records.specs.declared.fault.CatalogFault.TheVariants as faults
use Rattle.ssb_catalog.proofs.PlaceFacts.{columns-none, put-none}
use Rattle.ssb_catalog.proofs.ShortNames.{AreShort}

-- a column that these columns of a table let in
record Fits (columns : List ColumnDef) (c : ColumnDef) : Type 0 where
  short : length c.name ≤ 128
  fresh : list_any (is_column_named c.name) columns ≡ false
  one_key : (is_key_column c && list_any is_key_column columns) ≡ false
  int_key : (is_key_column c && not (is_int c.rule.kind)) ≡ false
  room : length columns < 64

any-names : (name : List ℕ) (cs : List ColumnDef) → list_any (bytes_eq name) (map (λ c. c.name) cs) ≡ list_any (is_column_named name) cs
any-names name [] = refl
any-names name (c ∷ cs) = ap (λ b. bytes_eq name c.name || b) (any-names name cs)

none-kept : {X : Type 0} (p : X → Bool) (xs : List X) → list_any p xs ≡ false → filter p xs ≡ []
none-kept p [] e = refl
none-kept p (x ∷ xs) e =
    elim (cases_Bool (p x)) [
      | inl passes ↦ (let never = rw passes at e in cc never)
      | inr fails ↦ rw fails (none-kept p xs (rw fails at e))
    ]

kinds-int : (kind : ColType) → not (is_int kind) ≡ false → kind ≡ kinds.Int
kinds-int kinds.Int e = refl
kinds-int kinds.Text e = cc e

int-of : (c : ColumnDef) → (is_key_column c && not (is_int c.rule.kind)) ≡ false → is_key_column c ≡ true → c.rule.kind ≡ kinds.Int
int-of c e key = kinds-int c.rule.kind (rw key at e)

keys-put : (cs : List ColumnDef) (c : ColumnDef) → length (filter is_key_column cs) ≤ 1 → (is_key_column c && list_any is_key_column cs) ≡ false → length (filter is_key_column (cs ++ c ∷ [])) ≤ 1
keys-put cs c few one =
    elim (cases_Bool (is_key_column c)) [
      | inl key ↦ rw (filter-append is_key_column cs (c ∷ []), key, none-kept is_key_column cs (rw key at one)) (omega arith)
      | inr none ↦ rw (filter-append is_key_column cs (c ∷ []), none, append-nil) few
    ]

table-put : (t : TableShape) (c : ColumnDef) → IsTable t → Fits t.columns c → IsTable (put_column t c)
table-put t c h f =
    let n = length-append t.columns (c ∷ []) in
    let room = f.room in
    record {
      some = omega arith;
      few = omega arith;
      short_name = h.short_name;
      short_columns = All-push (λ c. length c.name ≤ 128) t.columns c h.short_columns f.short;
      names = rw map-append (IsDistinct-push nat_list_eq_equiv (map (λ c. c.name) t.columns) c.name h.names (any-names c.name t.columns ∙ f.fresh));
      one_key = keys-put t.columns c h.one_key f.one_key;
      int_key = All-push (λ c. is_key_column c ≡ true → c.rule.kind ≡ kinds.Int) t.columns c h.int_key (int-of c f.int_key);
    }

table-new : (name : List ℕ) (c : ColumnDef) → length name ≤ 128 → Fits [] c → IsTable (record { name = name; columns = c ∷ [] })
unfolding IsDistinct
table-new name c short f =
    record {
      some = omega arith;
      few = omega arith;
      short_name = short;
      short_columns = All-push (λ c. length c.name ≤ 128) [] c (All-nil (λ c. length c.name ≤ 128)) f.short;
      names = (tt, tt);
      one_key = keys-put [] c (omega arith) f.one_key;
      int_key = All-push (λ c. is_key_column c ≡ true → c.rule.kind ≡ kinds.Int) [] c (All-nil (λ c. is_key_column c ≡ true → c.rule.kind ≡ kinds.Int)) (int-of c f.int_key);
    }

fits-here : (t : TableShape) (ts : List TableShape) (name : List ℕ) (c : ColumnDef) → is_table_named name t ≡ true → Fits (columns_named (t ∷ ts) name) c → Fits t.columns c
fits-here t ts name c here f = let e : columns_named (t ∷ ts) name ≡ t.columns = rw here refl in rw (← e) f

fits-past : (t : TableShape) (ts : List TableShape) (name : List ℕ) (c : ColumnDef) → is_table_named name t ≡ false → Fits (columns_named (t ∷ ts) name) c → Fits (columns_named ts name) c
fits-past t ts name c other f = let e : columns_named (t ∷ ts) name ≡ columns_named ts name = rw other refl in rw (← e) f

each-put : (ts : List TableShape) (name : List ℕ) (c : ColumnDef) → length name ≤ 128 → AllByRecursion IsTable ts → Fits (columns_named ts name) c → AllByRecursion IsTable (with_column ts name c)
each-put [] name c short h f = (table-new name c short f, tt)
each-put (t ∷ ts) name c short h f =
    elim (cases_Bool (is_table_named name t)) [
      | inl here ↦ rw here (table-put t c h.0 (fits-here t ts name c here f), h.1)
      | inr other ↦ rw other (h.0, each-put ts name c short h.1 (fits-past t ts name c other f))
    ]

-- the names of tables with one more column
same-names : (ts : List TableShape) (name : List ℕ) (c : ColumnDef) → list_any (is_table_named name) ts ≡ true → map (λ t. t.name) (with_column ts name c) ≡ map (λ t. t.name) ts
same-names [] name c e = cc e
same-names (t ∷ ts) name c e =
    elim (cases_Bool (is_table_named name t)) [
      | inl here ↦ rw here refl
      | inr other ↦ rw (other, same-names ts name c (rw other at e)) refl
    ]

same-length : (ts us : List TableShape) → map (λ t. t.name) ts ≡ map (λ t. t.name) us → length ts ≡ length us
same-length ts us e = sym (length-map ts (λ (t : TableShape). t.name)) ∙ ap length e ∙ length-map us (λ (t : TableShape). t.name)

any-tables : (name : List ℕ) (ts : List TableShape) → list_any (bytes_eq name) (map (λ t. t.name) ts) ≡ list_any (is_table_named name) ts
any-tables name [] = refl
any-tables name (t ∷ ts) = ap (λ b. bytes_eq name t.name || b) (any-tables name ts)

below : (m n : ℕ) → nat_le m n ≡ false → n < m
below m n e = grind (arith, nat_tests)

-- what a column without a fault passes
record Passes (ts : List TableShape) (name : List ℕ) (c : ColumnDef) : Type 0 where
  fresh : list_any (is_column_named c.name) (columns_named ts name) ≡ false
  one_key : (is_key_column c && list_any is_key_column (columns_named ts name)) ≡ false
  int_key : (is_key_column c && not (is_int c.rule.kind)) ≡ false
  room : is_full_for ts name ≡ false

passes : (ts : List TableShape) (name : List ℕ) (c : ColumnDef) → column_fault ts name c ≡ None → Passes ts name c
passes ts name c e =
    let rest : Option CatalogFault = cond (is_full_for ts name) (Some faults.TooMany) None in
    let rest2 : Option CatalogFault = cond (is_key_column c && not (is_int c.rule.kind)) (Some faults.KeyNotInt) rest in
    let rest3 : Option CatalogFault = cond (is_key_column c && list_any is_key_column (columns_named ts name)) (Some faults.KeyTwice) rest2 in
    let a = cond-none (list_any (is_column_named c.name) (columns_named ts name)) faults.ColumnTwice rest3 e in
    let b = cond-none (is_key_column c && list_any is_key_column (columns_named ts name)) faults.KeyTwice rest2 a.1 in
    let d = cond-none (is_key_column c && not (is_int c.rule.kind)) faults.KeyNotInt rest b.1 in
    let f = cond-none (is_full_for ts name) faults.TooMany None d.1 in
    record { fresh = a.0; one_key = b.0; int_key = d.0; room = f.0 }

room-left : (ts : List TableShape) (name : List ℕ) → is_full_for ts name ≡ false → length (columns_named ts name) < 64
room-left ts name e =
    elim (cases_Bool (list_any (is_table_named name) ts)) [
      | inl has ↦ below 64 (length (columns_named ts name)) (rw has at e)
      | inr none ↦ rw (columns-none ts name none) (omega arith)
    ]

fits : (ts : List TableShape) (name : List ℕ) (c : ColumnDef) → length c.name ≤ 128 → Passes ts name c → Fits (columns_named ts name) c
fits ts name c short p = record { short = short; fresh = p.fresh; one_key = p.one_key; int_key = p.int_key; room = room-left ts name p.room }

pub draft-more : (ts : List TableShape) (name : List ℕ) (c : ColumnDef) → AreShort name c → IsDraft ts → column_fault ts name c ≡ None → IsDraft (with_column ts name c)
draft-more ts name c short h e =
    let each = All-from_recursion IsTable (with_column ts name c) (each-put ts name c short.table (recursion_from_All IsTable ts h.each) (fits ts name c short.column (passes ts name c e))) in
    let full = (passes ts name c e).room in
    let few = h.few in
    elim (cases_Bool (list_any (is_table_named name) ts)) [
      | inl has ↦ (
          let same = same-names ts name c has in
          let len = same-length (with_column ts name c) ts same in
          record { few = omega arith; names = rw same h.names; each = each })
      | inr none ↦ (
          let new = put-none ts name c none in
          let room = below 16 (length ts) (rw none at full) in
          let n = ap length new in
          let m = length-append ts (record { name = name; columns = c ∷ [] } ∷ []) in
          record {
            few = omega arith;
            names = rw (new, map-append) (IsDistinct-push nat_list_eq_equiv (map (λ t. t.name) ts) name h.names (any-tables name ts ∙ none));
            each = each;
          })
    ]

pub draft-none : IsDraft []
unfolding IsDistinct
draft-none = record { few = omega arith; names = tt; each = All-nil IsTable }

-- how many columns there are
pub count-more : (ts : List TableShape) (name : List ℕ) (c : ColumnDef) → column_count (with_column ts name c) ≡ column_count ts + 1
count-more [] name c = refl
count-more (t ∷ ts) name c =
    elim (cases_Bool (is_table_named name t)) [
      | inl here ↦ rw here (let n = length-append t.columns (c ∷ []) in omega arith)
      | inr other ↦ rw other (let n = count-more ts name c in omega arith)
    ]

count-few : (ts : List TableShape) → AllByRecursion IsTable ts → column_count ts ≤ 64 * length ts
count-few [] h = omega arith
count-few (t ∷ ts) h = let n = count-few ts h.1 in let few = h.0.few in omega arith

pub count-draft : (ts : List TableShape) → IsDraft ts → column_count ts ≤ 1024
count-draft ts h = let n = count-few ts (recursion_from_All IsTable ts h.each) in let few = h.few in omega arith
