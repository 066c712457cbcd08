-- The table of a name, by its place.
use Rattle.std.proofs.Common.{◌≡◌, ◌∙◌, ◌<◌, ◌++◌, ℕ, zero, suc, Bool, true, false, List, [], ◌∷◌, length, get_or, Some, None, inl, inr, refl, sym, ap, arith, ltb}
use Rattle.std.proofs.Math.ListN.{set}
use Rattle.std.specs.List.{list_any, position, position_or_len}
use Rattle.std.specs.Prelude.{nat_le}
use Rattle.std.proofs.lemmas.Bool.{cases_Bool, ltb-false, or_parts}
use Rattle.std.proofs.lemmas.List.Folds.{list_any_none, list_any_at}
use Rattle.std.proofs.lemmas.List.Quantifiers.{position-Some}
use Rattle.std.proofs.lemmas.List.Sums.{fails_before_first}
use Rattle.ssb_catalog.specs.Catalog.{columns_named, is_full_for, is_table_named}
use Rattle.ssb_catalog.specs.Drafting.{put_column, with_column}
use Rattle.ssb_catalog.specs.Shapes.{TableShape}
use Rattle.ssb_catalog.specs.declared.catalog.ColumnDef.{ColumnDef}

-- no element passes a test that has no first place
none-passes : {X : Type 0} (p : X → Bool) (xs : List X) → position p xs ≡ None → list_any p xs ≡ false
none-passes p xs e =
    elim (cases_Bool (ltb (position_or_len p xs) (length xs))) [
      | inl h ↦ (let some : Some (position_or_len p xs) ≡ None = rw h at e in cc some)
      | inr h ↦ list_any_none p xs (λ k d lt. let le = ltb-false _ _ h in fails_before_first p xs k d (omega arith))
    ]

columns-at : (ts : List TableShape) (name : List ℕ) (k : ℕ) (d : TableShape) → k < length ts → is_table_named name (get_or ts k d) ≡ true
    → ((j : ℕ) → j < k → is_table_named name (get_or ts j d) ≡ false) → (get_or ts k d).columns ≡ columns_named ts name
columns-at [] name k d lt is before = absurd (omega arith)
columns-at (t ∷ ts) name zero d lt is before = rw is refl
columns-at (t ∷ ts) name (suc k) d lt is before = rw (before 0 (omega arith)) (columns-at ts name k d (omega arith) is (λ j l. before (suc j) (omega arith)))

put-at : (ts : List TableShape) (name : List ℕ) (c : ColumnDef) (k : ℕ) (d : TableShape) → k < length ts → is_table_named name (get_or ts k d) ≡ true
    → ((j : ℕ) → j < k → is_table_named name (get_or ts j d) ≡ false) → set ts k (put_column (get_or ts k d) c) ≡ with_column ts name c
put-at [] name c k d lt is before = absurd (omega arith)
put-at (t ∷ ts) name c zero d lt is before = rw is refl
put-at (t ∷ ts) name c (suc k) d lt is before = rw (before 0 (omega arith)) (ap (λ us. t ∷ us) (put-at ts name c k d (omega arith) is (λ j l. before (suc j) (omega arith))))

pub columns-none : (ts : List TableShape) (name : List ℕ) → list_any (is_table_named name) ts ≡ false → columns_named ts name ≡ []
columns-none [] name e = refl
columns-none (t ∷ ts) name e = let h = or_parts (is_table_named name t) (list_any (is_table_named name) ts) e in rw h.0 (columns-none ts name h.1)

pub put-none : (ts : List TableShape) (name : List ℕ) (c : ColumnDef) → list_any (is_table_named name) ts ≡ false → with_column ts name c ≡ ts ++ record { name = name; columns = c ∷ [] } ∷ []
put-none [] name c e = refl
put-none (t ∷ ts) name c e = let h = or_parts (is_table_named name t) (list_any (is_table_named name) ts) e in rw h.0 (ap (λ us. t ∷ us) (put-none ts name c h.1))

-- by the place of the first
pub some-columns : (ts : List TableShape) (name : List ℕ) (k : ℕ) (d : TableShape) → position (is_table_named name) ts ≡ Some k → (get_or ts k d).columns ≡ columns_named ts name
some-columns ts name k d e = let (lt, is, before) = position-Some (is_table_named name) ts k d e in columns-at ts name k d lt is before

pub some-put : (ts : List TableShape) (name : List ℕ) (c : ColumnDef) (k : ℕ) (d : TableShape) → position (is_table_named name) ts ≡ Some k → set ts k (put_column (get_or ts k d) c) ≡ with_column ts name c
some-put ts name c k d e = let (lt, is, before) = position-Some (is_table_named name) ts k d e in put-at ts name c k d lt is before

pub some-full : (ts : List TableShape) (name : List ℕ) (k : ℕ) (d : TableShape) → position (is_table_named name) ts ≡ Some k → is_full_for ts name ≡ nat_le 64 (length (columns_named ts name))
some-full ts name k d e = let (lt, is, before) = position-Some (is_table_named name) ts k d e in rw (list_any_at (is_table_named name) ts k d lt is) refl

pub no-columns : (ts : List TableShape) (name : List ℕ) → position (is_table_named name) ts ≡ None → columns_named ts name ≡ []
no-columns ts name e = columns-none ts name (none-passes _ ts e)

pub no-put : (ts : List TableShape) (name : List ℕ) (c : ColumnDef) → position (is_table_named name) ts ≡ None → with_column ts name c ≡ ts ++ record { name = name; columns = c ∷ [] } ∷ []
no-put ts name c e = put-none ts name c (none-passes _ ts e)

-- a new table of one column
pub new-put : (ts now : List TableShape) (name : List ℕ) (c : ColumnDef) (t : TableShape) (none columns : List ColumnDef) → position (is_table_named name) ts ≡ None → now ≡ ts ++ t ∷ [] → t.name ≡ name → t.columns ≡ columns
    → columns ≡ none ++ c ∷ [] → none ≡ [] → now ≡ with_column ts name c
new-put ts now name c t none columns e is named has one empty =
    let all : t.columns ≡ c ∷ [] = has ∙ one ∙ (rw empty refl) in
    let whole : t ≡ record { name = name; columns = c ∷ [] } = rw (← named, ← all) refl in
    is ∙ (rw whole (sym (no-put ts name c e)))

pub no-full : (ts : List TableShape) (name : List ℕ) → position (is_table_named name) ts ≡ None → is_full_for ts name ≡ nat_le 16 (length ts)
no-full ts name e = rw (none-passes (is_table_named name) ts e) refl
