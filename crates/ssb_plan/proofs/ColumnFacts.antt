-- The conjuncts that are tested by a column.
use Rattle.std.proofs.Common.{◌≡◌, ◌∙◌, ◌++◌, ◌||◌, ◌&&◌, ◌+◌, ◌<◌, ◌≤◌, ℕ, Bool, true, false, cond, not, nat_eq, nat_lt, if◌then◌else◌, is_some, List, [], ◌∷◌, All, Option, None, Some, filter, find, length, get_or, map, take, refl, slice_get, sym, ap, arith, true≢false, subst}
use Rattle.std.proofs.lemmas.Bool.{and_parts, eqb-true, lt-ltb, ltb-true}
use Rattle.std.proofs.lemmas.List.{append-nil}
use Rattle.std.proofs.lemmas.Option.{none-some, same_Some}
use Rattle.std.proofs.lemmas.List.Elements.{All-nil, All-push}
use Rattle.std.proofs.lemmas.List.Folds.{list_all-append}
use Rattle.std.specs.List.{list_all}
use Rattle.std.specs.Option.{option_eq}
use Rattle.ssb_cells.specs.Tables.{Columns, Filled}
use Rattle.ssb_cells.specs.Truth.{all_of}
use Rattle.ssb_query.specs.declared.column.BoundColumn.{BoundColumn}
use Rattle.ssb_trees.specs.Conditions.{Filter, operands}
use Rattle.ssb_trees.specs.declared.operand.Operand.{Operand}
use Rattle.ssb_trees.specs.declared.operand.Operand.TheVariants as operand
use Rattle.ssb_plan.specs.Filters.{IsColumnFilter, IsThere, asked_column, asked_of, is_this, own_column}
use Rattle.ssb_conditions.specs.Holds.{holds}
use Rattle.ssb_plan.specs.declared.sets.ValueSet.{ValueSet}
use Rattle.ssb_conditions.specs.Met.{all_true, is_met}
use Rattle.ssb_plan.specs.Only.{only_at}
use Rattle.ssb_conditions.specs.Rows.{RowValuation}
use Rattle.ssb_plan.specs.Sets.{Tells, is_own, is_other, sole, sole_column}
use Rattle.ssb_plan.specs.declared.column_filter.ColumnFilter.{ColumnFilter}
use Rattle.ssb_plan.proofs.SetFacts.{take-next}

-- ---- filtered lists

filter-append : {X : Type 0} (p : X → Bool) (xs : List X) (y : X) → filter p (xs ++ y ∷ []) ≡ filter p xs ++ filter p (y ∷ [])
filter-append p [] y = refl
filter-append p (x ∷ xs) y = by (p x) (filter-append p xs y)
  where
    by : (b : Bool) → filter p (xs ++ y ∷ []) ≡ filter p xs ++ filter p (y ∷ []) → (if b then x ∷ filter p (xs ++ y ∷ []) else filter p (xs ++ y ∷ [])) ≡ (if b then x ∷ filter p xs else filter p xs) ++ filter p (y ∷ [])
    by true e = ap (λ zs. x ∷ zs) e
    by false e = e

-- one item more
module _ {X : Type 0} (p : X → Bool) (xs : List X) (i : ℕ) (x : X) (within : i < length xs) (is : x ≡ get_or xs i x) where
  pub filter-with : p x ≡ true → filter p (take (i + 1) xs) ≡ filter p (take i xs) ++ x ∷ []
  filter-with e = ap (filter p) (take-next xs i x within is) ∙ filter-append p (take i xs) x ∙ ap (λ b. filter p (take i xs) ++ (if b then x ∷ [] else [])) e

  pub filter-without : p x ≡ false → filter p (take (i + 1) xs) ≡ filter p (take i xs)
  filter-without e = ap (filter p) (take-next xs i x within is) ∙ filter-append p (take i xs) x ∙ ap (λ b. filter p (take i xs) ++ (if b then x ∷ [] else [])) e ∙ append-nil (filter p (take i xs))

filter-same : {X : Type 0} (p q : X → Bool) → ((x : X) → p x ≡ q x) → (xs : List X) → filter p xs ≡ filter q xs
filter-same p q same [] = refl
filter-same p q same (x ∷ xs) = (λ j. if same x j then x ∷ filter-same p q same xs j else filter-same p q same xs j)

filter-none : {X : Type 0} (p : X → Bool) → ((x : X) → p x ≡ false) → (xs : List X) → filter p xs ≡ []
filter-none p none [] = refl
filter-none p none (x ∷ xs) = ap (λ b. if b then x ∷ filter p xs else filter p xs) (none x) ∙ filter-none p none xs

-- what is so of all items that pass one test or the other
abbrev put : Bool → Bool → Bool → Bool
put true m a = m && a
put false m a = a

put-filter : {X : Type 0} (m p : X → Bool) (x : X) (xs : List X) → list_all m (filter p (x ∷ xs)) ≡ put (p x) (m x) (list_all m (filter p xs))
put-filter m p x xs = by (p x)
  where
    by : (b : Bool) → list_all m (if b then x ∷ filter p xs else filter p xs) ≡ put b (m x) (list_all m (filter p xs))
    by true = refl
    by false = refl

put-both : (p q m a b : Bool) → put (p || q) m (a && b) ≡ (put p m a && put q m b)
put-both true true true a b = refl
put-both true true false a b = refl
put-both true false true a b = refl
put-both true false false a b = refl
put-both false true true a b = refl
put-both false true false true b = refl
put-both false true false false b = refl
put-both false false m a b = refl

all-either : {X : Type 0} (m p q r : X → Bool) → ((x : X) → r x ≡ (p x || q x)) → (xs : List X) → list_all m (filter r xs) ≡ (list_all m (filter p xs) && list_all m (filter q xs))
all-either m p q r is [] = refl
all-either m p q r is (x ∷ xs) =
    put-filter m r x xs ∙ (λ j. put (is x j) (m x) (all-either m p q r is xs j)) ∙ put-both (p x) (q x) (m x) (list_all m (filter p xs)) (list_all m (filter q xs))
    ∙ sym (λ j. put-filter m p x xs j && put-filter m q x xs j)

-- ---- the sole column of a conjunct

none-found : {X : Type 0} (p : X → Bool) (xs : List X) → is_some (find p xs) ≡ false → list_all (λ x. not (p x)) xs ≡ true
none-found p [] e = refl
none-found p (x ∷ xs) e = by (p x) refl (none-found p xs)
  where
    by : (b : Bool) → p x ≡ b → (is_some (find p xs) ≡ false → list_all (λ y. not (p y)) xs ≡ true) → list_all (λ y. not (p y)) (x ∷ xs) ≡ true
    by true at rest = absurd (true≢false (sym (ap (λ b. is_some (cond b (Some x) (find p xs))) at) ∙ e))
    by false at rest = ap (λ b. not b && list_all (λ y. not (p y)) xs) at ∙ rest (sym (ap (λ b. is_some (cond b (Some x) (find p xs))) at) ∙ e)

module _ (y : BoundColumn) where
  sole-own : (os : List (Operand BoundColumn)) (o : Option (Operand BoundColumn)) → sole os o ≡ Some y → list_all (is_own y) os ≡ true
  sole-own os None e = absurd (none-some y e)
  sole-own os (Some (operand.Literal l)) e = absurd (none-some y e)
  sole-own os (Some (operand.Column z)) e = by (is_some (find (is_other z) os)) refl
    where
      by : (b : Bool) → is_some (find (is_other z) os) ≡ b → list_all (is_own y) os ≡ true
      by true at = absurd (none-some y (sym (ap (λ b. if b then None else Some z) at) ∙ e))
      by false at =
          let same : z ≡ y = same_Some z y (sym (ap (λ b. if b then None else Some z) at) ∙ e) in
          ap (λ (w : BoundColumn). list_all (is_own w) os) (sym same) ∙ none-found (is_other z) os at

module _ (place count column : ℕ) where
  own-found : (o : Option BoundColumn) → own_column place count o ≡ Some column → (o ≡ Some (record { table = place; column = column })) × (column < count)
  own-found None e = absurd (none-some column e)
  own-found (Some y) e = by (nat_eq y.table place && nat_lt y.column count) refl
    where
      by : (b : Bool) → (nat_eq y.table place && nat_lt y.column count) ≡ b → (Some y ≡ Some (record { table = place; column = column })) × (column < count)
      by true at =
          let parts = and_parts (nat_eq y.table place) (nat_lt y.column count) at in
          let same : y.column ≡ column = same_Some y.column column (sym (ap (λ b. if b then Some y.column else None) at) ∙ e) in
          ((λ j. Some (record { table = eqb-true y.table place parts.0 j; column = same j })), subst (λ k. k < count) same (ltb-true y.column count parts.1))
      by false at = absurd (none-some column (sym (ap (λ b. if b then Some y.column else None) at) ∙ e))

  asked-found : (c : Filter BoundColumn) → asked_column place count c ≡ Some column → own_column place count (sole_column c) ≡ Some column
  asked-found c = by (only_at place c)
    where
      by : (b : Bool) → (if b then own_column place count (sole_column c) else None) ≡ Some column → own_column place count (sole_column c) ≡ Some column
      by true e = e
      by false e = absurd (none-some column e)

  -- a conjunct that is tested by a column has no other
  pub asked-own : (c : Filter BoundColumn) → asked_column place count c ≡ Some column → list_all (is_own (record { table = place; column = column })) (operands (Operand BoundColumn) c) ≡ true
  asked-own c e = sole-own (record { table = place; column = column }) (operands (Operand BoundColumn) c) _ (own-found (sole_column c) (asked-found c e)).0

  pub asked-there : (c : Filter BoundColumn) → asked_column place count c ≡ Some column → column < count
  asked-there c e = (own-found (sole_column c) (asked-found c e)).1

-- ---- columns below one

abbrev pub is_below : ℕ → Option ℕ → Bool
is_below i None = false
is_below i (Some k) = nat_lt k i

-- the conjuncts that are tested by a column below one
abbrev pub asked_below : ℕ → ℕ → ℕ → List (Filter BoundColumn) → List (Filter BoundColumn)
asked_below place count i cs = filter (λ c. is_below i (asked_column place count c)) cs

below-next : (i : ℕ) (o : Option ℕ) → is_below (i + 1) o ≡ (is_below i o || is_this i o)
below-next i None = refl
below-next i (Some k) = grind arith

below-first : (o : Option ℕ) → is_below 0 o ≡ false
below-first None = refl
below-first (Some k) = grind arith

-- filters of the columns below one
pub record AreBelow (t : Columns) (place : ℕ) (cs : List (Filter BoundColumn)) (i : ℕ) (fs : List ColumnFilter) : Type 0 where
  pub filters : All (IsColumnFilter t place cs) fs
  pub each : (v : RowValuation) → list_all (λ (g : ColumnFilter). all_true v (asked_of place (length t) g.column cs)) fs ≡ all_true v (asked_below place (length t) i cs)

and-one : (b : Bool) → (b && true) ≡ b
and-one true = refl
and-one false = refl

module _ (t : Columns) (place : ℕ) (cs : List (Filter BoundColumn)) where
  next : (v : RowValuation) (i : ℕ) → all_true v (asked_below place (length t) (i + 1) cs) ≡ (all_true v (asked_below place (length t) i cs) && all_true v (asked_of place (length t) i cs))
  next v i = all-either (is_met v) (λ c. is_below i (asked_column place (length t) c)) (λ c. is_this i (asked_column place (length t) c)) (λ c. is_below (i + 1) (asked_column place (length t) c)) (λ c. below-next i (asked_column place (length t) c)) cs

  pub below-zero : AreBelow t place cs 0 []
  below-zero = record {
    filters = All-nil (IsColumnFilter t place cs);
    each = λ v. sym (ap (all_true v) (filter-none (λ c. is_below 0 (asked_column place (length t) c)) (λ c. below-first (asked_column place (length t) c)) cs));
  }

  pub below-same : (i : ℕ) (fs : List ColumnFilter) → AreBelow t place cs i fs → asked_of place (length t) i cs ≡ [] → AreBelow t place cs (i + 1) fs
  below-same i fs h none = record {
    filters = h.filters;
    each = λ v. h.each v ∙ sym (next v i ∙ ap (λ ds. all_true v (asked_below place (length t) i cs) && all_true v ds) none ∙ and-one (all_true v (asked_below place (length t) i cs)));
  }

  pub below-more : (i : ℕ) (fs : List ColumnFilter) (g : ColumnFilter) → AreBelow t place cs i fs → IsColumnFilter t place cs g → g.column ≡ i → AreBelow t place cs (i + 1) (fs ++ g ∷ [])
  below-more i fs g h is at = record {
    filters = All-push (IsColumnFilter t place cs) fs g h.filters is;
    each = λ v. list_all-append (λ (g : ColumnFilter). all_true v (asked_of place (length t) g.column cs)) fs (g ∷ [])
        ∙ (λ j. h.each v j && and-one (all_true v (asked_of place (length t) g.column cs)) j)
        ∙ ap (λ k. all_true v (asked_below place (length t) i cs) && all_true v (asked_of place (length t) k cs)) at ∙ sym (next v i);
  }

  -- all columns were passed
  pub below-all : (i : ℕ) (fs : List ColumnFilter) → length t ≤ i → AreBelow t place cs i fs → (v : RowValuation) → list_all (λ (g : ColumnFilter). all_true v (asked_of place (length t) g.column cs)) fs ≡ all_true v (filter (λ c. is_some (asked_column place (length t) c)) cs)
  below-all i fs past h v = h.each v ∙ ap (all_true v) (filter-same (λ c. is_below i (asked_column place (length t) c)) (λ c. is_some (asked_column place (length t) c)) (λ c. all c (asked_column place (length t) c) refl) cs)
    where
      all : (c : Filter BoundColumn) (o : Option ℕ) → asked_column place (length t) c ≡ o → is_below i o ≡ is_some o
      all c None e = refl
      all c (Some k) e = let there = asked-there place (length t) k c e in lt-ltb k i (omega (arith, there, past))

-- ---- the column that a conjunct is tested by, compared

pub is-asked : (k : ℕ) (o : Option ℕ) → option_eq nat_eq o (Some k) ≡ is_this k o
is-asked k None = refl
is-asked k (Some n) = refl

pub asked-some : (k : ℕ) (o : Option ℕ) → option_eq nat_eq o (Some k) ≡ true → o ≡ Some k
asked-some k None e = absurd (true≢false (sym e))
asked-some k (Some n) e = ap Some (eqb-true n k e)

-- no condition, where there are no sets
pub none-there : {X Y : Type 0} (xs : List X) (ys : List Y) → length xs ≡ length ys → length ys ≡ 0 → xs ≡ []
none-there [] ys same none = refl
none-there (x ∷ xs) ys same none = absurd (omega (arith, same, none))

-- ---- the filter of a column

pub is-column-filter : (t : Columns) (place column : ℕ) (cs : List (Filter BoundColumn)) (col : Filled) (set : ValueSet) (f : ColumnFilter) → IsThere t f → f.column ≡ column → f.set ≡ set → slice_get t column ≡ Some col
    → Tells (record { table = place; column = column }) col (λ v. all_of (map (holds v) (asked_of place (length t) column cs))) set → IsColumnFilter t place cs f
is-column-filter t place column cs col set f there is set_is here tells = record {
  there = there;
  tells = λ d at.
      let same : col ≡ d = same_Some col d (sym here ∙ ap (slice_get t) (sym is) ∙ at) in
      subst (λ k. Tells (record { table = place; column = k }) d (λ v. all_of (map (holds v) (asked_of place (length t) k cs))) f.set) (sym is)
      (subst (Tells (record { table = place; column = column }) d (λ v. all_of (map (holds v) (asked_of place (length t) column cs)))) (sym set_is)
      (subst (λ e. Tells (record { table = place; column = column }) e (λ v. all_of (map (holds v) (asked_of place (length t) column cs))) set) same tells));
}
