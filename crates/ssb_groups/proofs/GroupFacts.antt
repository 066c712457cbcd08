-- Groups, read by the places of their keys.
use Rattle.std.proofs.Common.{◌≡◌, ◌≢◌, ◌∙◌, ◌⊎◌, inl, inr, ℕ, zero, suc, ◌+◌, ◌<◌, ◌≤◌, Bool, true, false, cond, List, [], ◌∷◌, length, map, get_or, slice_get, Option, None, Some, refl, sym, ap, ap₂, subst, arith}
use Rattle.std.specs.List.{AllByRecursion, IsDistinct}
use Rattle.std.specs.Map.{lookup}
use Rattle.std.proofs.lemmas.Option.{same_Some}
use Rattle.ssb_plan.specs.JobShape.{JobShape}
use Rattle.ssb_query.specs.declared.column.BoundColumn.{BoundColumn}
use Rattle.ssb_trees.specs.declared.aggregate.Aggregate.{Aggregate}
use Rattle.ssb_groups.specs.Aggregates.{agg, arguments_at, totals, totals_from}
use Rattle.ssb_groups.specs.Joining.{joining_of, values_by}
use Rattle.ssb_groups.specs.Keys.{AreKept, IsKept, cells_in, kept_total, spelt}
use Rattle.ssb_groups.specs.Places.{AreKeys, IsPlaced}
use Rattle.ssb_groups.specs.Rows.{Key, SeenRow, key_eq}
use Rattle.ssb_groups.specs.Stands.{AreRanged, group, summary}
use Rattle.ssb_groups.specs.Tallies.{AreTallies, AreTotals, entries_from, texts_of, total_at, totals_at, totals_in}
use Rattle.ssb_groups.specs.GroupKeys.{GroupKey}
use Rattle.ssb_groups.specs.declared.kept.KeptTotal.{KeptTotal}
use Rattle.ssb_groups.specs.declared.kept.KeptTotal.TheVariants as total
use Rattle.ssb_groups.proofs.KeyFacts.{key_eq_laws, key_same, keys_equal}

-- ---- lists

pub get-none : {X : Type 0} (xs : List X) (p : ℕ) → slice_get xs p ≡ None → length xs ≤ p
get-none [] p e = omega arith
get-none (x ∷ xs) zero e = cc
get-none (x ∷ xs) (suc p) e = let rest = get-none xs p e in omega (arith, rest)

pub get-within : {X : Type 0} (xs : List X) (p : ℕ) (x : X) → slice_get xs p ≡ Some x → p < length xs
get-within [] p x e = cc
get-within (y ∷ xs) zero x e = omega arith
get-within (y ∷ xs) (suc p) x e = let rest = get-within xs p x e in omega (arith, rest)

-- ---- keys that are all different

-- the values of keys
abbrev pub values_of : JobShape → List GroupKey → List Key
values_of j ks = map (cells_in j) ks

abbrev pub AreApart : JobShape → List GroupKey → Type 0
AreApart j ks = IsDistinct key_eq (values_of j ks)

all-apart : (j : JobShape) (x : GroupKey) (ks : List GroupKey) → AreKeys j (x ∷ ks) → AllByRecursion (λ y. keys_equal x y ≡ false) ks → AllByRecursion (λ y. key_eq (cells_in j x) y ≡ false) (values_of j ks)
all-apart j x [] are h = tt
all-apart j x (k ∷ ks) are h = (sym (key_same j x k are.0 are.1.0) ∙ h.0, all-apart j x ks (are.0, are.1.1) h.1)

pub apart : (j : JobShape) (ks : List GroupKey) → AreKeys j ks → IsDistinct keys_equal ks → AreApart j ks
unfolding IsDistinct
apart j [] are h = tt
apart j (x ∷ ks) are h = (all-apart j x ks are h.0, apart j ks are.1 h.1)

apart-at : (j : JobShape) (v : Key) (ks : List GroupKey) (p : ℕ) (k : GroupKey) → AllByRecursion (λ y. key_eq v y ≡ false) (values_of j ks) → slice_get ks p ≡ Some k → key_eq v (cells_in j k) ≡ false
apart-at j v [] p k h e = cc
apart-at j v (x ∷ ks) zero k h e = subst (λ y. key_eq v (cells_in j y) ≡ false) (same_Some x k e) h.0
apart-at j v (x ∷ ks) (suc p) k h e = apart-at j v ks p k h.1 e

-- keys at two places are different
pub others-apart : (j : JobShape) (ks : List GroupKey) (p q : ℕ) (k g : GroupKey) → AreApart j ks → slice_get ks p ≡ Some k → slice_get ks q ≡ Some g → p < q → key_eq (cells_in j k) (cells_in j g) ≡ false
unfolding IsDistinct
others-apart j [] p q k g h e f lt = cc
others-apart j (x ∷ ks) p zero k g h e f lt = absurd (omega (arith, lt))
others-apart j (x ∷ ks) zero (suc q) k g h e f lt = subst (λ y. key_eq (cells_in j y) (cells_in j g) ≡ false) (same_Some x k e) (apart-at j (cells_in j x) ks q g h.0 f)
others-apart j (x ∷ ks) (suc p) (suc q) k g h e f lt = others-apart j ks p q k g h.1 e f (omega (arith, lt))

-- ---- a look-up

module _ (j : JobShape) (tallies : List (List KeptTotal)) where
  pub entries-keys : (p : ℕ) (ks : List GroupKey) → map (λ e. e.0) (entries_from j tallies p ks) ≡ values_of j ks
  entries-keys p [] = refl
  entries-keys p (k ∷ ks) = ap (λ vs. cells_in j k ∷ vs) (entries-keys (suc p) ks)

  pub lookup-at : (q : Key) (ks : List GroupKey) (n p : ℕ) (k : GroupKey) → AreApart j ks → slice_get ks p ≡ Some k → key_eq q (cells_in j k) ≡ true → lookup (key_eq q) (entries_from j tallies n ks) ≡ Some (totals_in j (totals_at tallies (n + p)))
  unfolding IsDistinct
  lookup-at q [] n p k h e same = cc
  lookup-at q (x ∷ ks) n zero k h e same =
      let passes : key_eq q (cells_in j x) ≡ true = subst (λ y. key_eq q (cells_in j y) ≡ true) (sym (same_Some x k e)) same in
      let z : n ≡ n + 0 = omega arith in
      ap (λ t. cond t (Some (totals_in j (totals_at tallies n))) (lookup (key_eq q) (entries_from j tallies (suc n) ks))) passes ∙ ap (λ i. Some (totals_in j (totals_at tallies i))) z
  lookup-at q (x ∷ ks) n (suc p) k h e same =
      let fails : key_eq q (cells_in j x) ≡ false = key_eq_laws.congr q (cells_in j k) (cells_in j x) same ∙ key_eq_laws.symm (cells_in j k) (cells_in j x) ∙ apart-at j (cells_in j x) ks p k h.0 e in
      let z : suc n + p ≡ n + suc p = omega arith in
      ap (λ t. cond t (Some (totals_in j (totals_at tallies n))) (lookup (key_eq q) (entries_from j tallies (suc n) ks))) fails ∙ lookup-at q ks (suc n) p k h.1 e same ∙ ap (λ i. Some (totals_in j (totals_at tallies i))) z

  pub lookup-none : (q : Key) (ks : List GroupKey) (n : ℕ) → ((p : ℕ) (k : GroupKey) → slice_get ks p ≡ Some k → key_eq q (cells_in j k) ≡ false) → lookup (key_eq q) (entries_from j tallies n ks) ≡ None
  lookup-none q [] n h = refl
  lookup-none q (x ∷ ks) n h =
      ap (λ t. cond t (Some (totals_in j (totals_at tallies n))) (lookup (key_eq q) (entries_from j tallies (suc n) ks))) (h 0 x refl) ∙ lookup-none q ks (suc n) (λ p k e. h (suc p) k e)

-- values are those of a key at some place, or of none
pub search-key : (j : JobShape) (q : Key) (ks : List GroupKey) → ((p : ℕ) × IsPlaced j ks q p) ⊎ ((p : ℕ) (k : GroupKey) → slice_get ks p ≡ Some k → key_eq q (cells_in j k) ≡ false)
search-key j q [] = inr (λ p k e. cc)
search-key j q (x ∷ ks) = by (search-key j q ks) (key_eq q (cells_in j x)) refl
  where
    by : ((p : ℕ) × IsPlaced j ks q p) ⊎ ((p : ℕ) (k : GroupKey) → slice_get ks p ≡ Some k → key_eq q (cells_in j k) ≡ false) → (b : Bool) → key_eq q (cells_in j x) ≡ b
        → ((p : ℕ) × IsPlaced j (x ∷ ks) q p) ⊎ ((p : ℕ) (k : GroupKey) → slice_get (x ∷ ks) p ≡ Some k → key_eq q (cells_in j k) ≡ false)
    by rest true e = inl (0, record { key = x; there = refl; same = e })
    by (inl there) false e = inl (suc there.0, record { key = there.1.key; there = there.1.there; same = there.1.same })
    by (inr none) false e = inr (λ p. absent p)
      where
        absent : (p : ℕ) (k : GroupKey) → slice_get (x ∷ ks) p ≡ Some k → key_eq q (cells_in j k) ≡ false
        absent zero k f = subst (λ y. key_eq q (cells_in j y) ≡ false) (same_Some x k f) e
        absent (suc p) k f = none p k f

-- ---- the rows of a group

pub group-same : (q k : Key) (R : List SeenRow) → key_eq q k ≡ true → group q R ≡ group k R
group-same q k [] same = refl
group-same q k (r ∷ R) same = ap₂ (λ t rest. cond t (r ∷ rest) rest) (key_eq_laws.congr q k r.key same) (group-same q k R same)

pub group-short : (k : Key) (R : List SeenRow) → length (group k R) ≤ length R
group-short k [] = omega arith
group-short k (r ∷ R) =
    let rest = group-short k R in
    elim (key_eq k r.key) as (λ t. length (cond t (r ∷ group k R) (group k R)) ≤ length (r ∷ R)) [ true ↦ omega (arith, rest) | false ↦ omega (arith, rest) ]

pub group-ranged : (k : Key) (R : List SeenRow) → AreRanged R → AreRanged (group k R)
group-ranged k [] h = tt
group-ranged k (r ∷ R) h =
    let rest = group-ranged k R h.1 in
    elim (key_eq k r.key) as (λ t. AreRanged (cond t (r ∷ group k R) (group k R))) [ true ↦ (h.0, rest) | false ↦ rest ]

pub summary-none : (aggs : List (Aggregate BoundColumn)) (R : List SeenRow) → summary aggs R ≡ None → R ≡ []
summary-none aggs [] e = refl
summary-none aggs (r ∷ R) e = cc

pub summary-some : (aggs : List (Aggregate BoundColumn)) (R : List SeenRow) → (R ≡ [] → ⊥) → summary aggs R ≡ Some (totals aggs R)
summary-some aggs [] h = absurd (h refl)
summary-some aggs (r ∷ R) h = refl

-- the rows of the group whose key stands at a place, if one does
abbrev pub group_of : JobShape → Option GroupKey → List SeenRow → List SeenRow
group_of j None R = []
group_of j (Some k) R = group (cells_in j k) R

abbrev pub group_at : JobShape → List GroupKey → List SeenRow → ℕ → List SeenRow
group_at j ks R p = group_of j (slice_get ks p) R

pub group_of-short : (j : JobShape) (o : Option GroupKey) (R : List SeenRow) → length (group_of j o R) ≤ length R
group_of-short j None R = omega arith
group_of-short j (Some k) R = group-short (cells_in j k) R

pub group_of-ranged : (j : JobShape) (o : Option GroupKey) (R : List SeenRow) → AreRanged R → AreRanged (group_of j o R)
group_of-ranged j None R h = tt
group_of-ranged j (Some k) R h = group-ranged (cells_in j k) R h

-- ---- the totals at a place

module _ (j : JobShape) (p : ℕ) (R : List SeenRow) where
  pub totals-are : (n : ℕ) (aggs : List (Aggregate BoundColumn)) (tallies : List (List KeptTotal)) → length tallies ≡ length aggs
      → ((i : ℕ) (a : Aggregate BoundColumn) → slice_get aggs i ≡ Some a → total_at (texts_of j a) (get_or tallies i []) p ≡ agg a (arguments_at (n + i) R))
      → spelt (map (values_by j.tables) (map (joining_of j) aggs)) (totals_at tallies p) ≡ totals_from n aggs R
  totals-are n [] tallies many h = refl
  totals-are n (a ∷ aggs) [] many h = absurd (omega (arith, many))
  totals-are n (a ∷ aggs) (t ∷ tallies) many h =
      let z : n + 0 ≡ n = omega arith in
      ap₂ (λ c cs. c ∷ cs) (h 0 a refl ∙ ap (λ i. agg a (arguments_at i R)) z)
      (totals-are (n + 1) aggs tallies (omega (arith, many)) (λ i b e. let y : n + suc i ≡ n + 1 + i = omega arith in h (suc i) b e ∙ ap (λ m. agg b (arguments_at m R)) y))

  pub totals-each : (n : ℕ) (aggs : List (Aggregate BoundColumn)) (tallies : List (List KeptTotal)) → length tallies ≡ length aggs → spelt (map (values_by j.tables) (map (joining_of j) aggs)) (totals_at tallies p) ≡ totals_from n aggs R
      → (i : ℕ) (a : Aggregate BoundColumn) → slice_get aggs i ≡ Some a → total_at (texts_of j a) (get_or tallies i []) p ≡ agg a (arguments_at (n + i) R)
  totals-each n [] tallies many is i a e = cc
  totals-each n (b ∷ aggs) [] many is i a e = absurd (omega (arith, many))
  totals-each n (b ∷ aggs) (t ∷ tallies) many is zero a e =
      let here : total_at (texts_of j b) t p ≡ agg b (arguments_at n R) = cc is in
      let z : n ≡ n + 0 = omega arith in
      subst (λ x. total_at (texts_of j x) t p ≡ agg x (arguments_at (n + 0) R)) (same_Some b a e) (here ∙ ap (λ m. agg b (arguments_at m R)) z)
  totals-each n (b ∷ aggs) (t ∷ tallies) many is (suc i) a e =
      let rest : spelt (map (values_by j.tables) (map (joining_of j) aggs)) (totals_at tallies p) ≡ totals_from (n + 1) aggs R = cc is in
      let y : n + 1 + i ≡ n + suc i = omega arith in
      totals-each (n + 1) aggs tallies (omega (arith, many)) rest i a e ∙ ap (λ m. agg a (arguments_at m R)) y

-- keys at two places, whichever is first, are different
pub places-apart : (j : JobShape) (ks : List GroupKey) (p q : ℕ) (k g : GroupKey) → AreApart j ks → slice_get ks p ≡ Some k → slice_get ks q ≡ Some g → p ≢ q → key_eq (cells_in j k) (cells_in j g) ≡ false
unfolding IsDistinct
places-apart j [] p q k g h e f other = cc
places-apart j (x ∷ ks) zero zero k g h e f other = absurd (other refl)
places-apart j (x ∷ ks) (suc p) zero k g h e f other =
    key_eq_laws.symm (cells_in j k) (cells_in j g) ∙ subst (λ y. key_eq (cells_in j y) (cells_in j k) ≡ false) (same_Some x g f) (apart-at j (cells_in j x) ks p k h.0 e)
places-apart j (x ∷ ks) zero (suc q) k g h e f other = subst (λ y. key_eq (cells_in j y) (cells_in j g) ≡ false) (same_Some x k e) (apart-at j (cells_in j x) ks q g h.0 f)
places-apart j (x ∷ ks) (suc p) (suc q) k g h e f other = places-apart j ks p q k g h.1 e f (λ same. other (ap suc same))

-- ---- the entry at a place

module _ (j : JobShape) (tallies : List (List KeptTotal)) where
  pub entries-long : (n : ℕ) (ks : List GroupKey) → length (entries_from j tallies n ks) ≡ length ks
  entries-long n [] = refl
  entries-long n (k ∷ ks) = ap suc (entries-long (suc n) ks)

  entry-from : (n : ℕ) (ks : List GroupKey) (p : ℕ) (k : GroupKey) → slice_get ks p ≡ Some k → slice_get (entries_from j tallies n ks) p ≡ Some (cells_in j k, totals_in j (totals_at tallies (n + p)))
  entry-from n [] p k e = cc
  entry-from n (x ∷ ks) zero k e = let z : n ≡ n + 0 = omega arith in ap₂ (λ y i. Some (cells_in j y, totals_in j (totals_at tallies i))) (same_Some x k e) z
  entry-from n (x ∷ ks) (suc p) k e = let z : suc n + p ≡ n + suc p = omega arith in entry-from (suc n) ks p k e ∙ ap (λ i. Some (cells_in j k, totals_in j (totals_at tallies i))) z

  pub entry-at : (ks : List GroupKey) (p : ℕ) (k : GroupKey) → slice_get ks p ≡ Some k → slice_get (entries_from j tallies 0 ks) p ≡ Some (cells_in j k, totals_in j (totals_at tallies p))
  entry-at ks p k e = let z : 0 + p ≡ p = omega arith in entry-from 0 ks p k e ∙ ap (λ i. Some (cells_in j k, totals_in j (totals_at tallies i))) z

  -- there is a total for each aggregate
  kept-from : (p : ℕ) (aggs : List (Aggregate BoundColumn)) (ts : List (List KeptTotal)) → length ts ≡ length aggs → ((i : ℕ) (a : Aggregate BoundColumn) → slice_get aggs i ≡ Some a → IsKept (texts_of j a) (kept_total (get_or (get_or ts i []) p total.Null)))
      → AreKept (map (values_by j.tables) (map (joining_of j) aggs)) (totals_at ts p)
  kept-from p [] [] many h = tt
  kept-from p [] (t ∷ ts) many h = absurd (omega (arith, many))
  kept-from p (a ∷ aggs) [] many h = absurd (omega (arith, many))
  kept-from p (a ∷ aggs) (t ∷ ts) many h = (h 0 a refl, kept-from p aggs ts (omega (arith, many)) (λ i b e. h (suc i) b e))

  pub totals-kept : (n p : ℕ) → AreTallies j n tallies → AreTotals j (totals_at tallies p)
  totals-kept n p are = kept-from p j.query.aggregates tallies are.many (λ i a at. (are.each i a at).kept p)
