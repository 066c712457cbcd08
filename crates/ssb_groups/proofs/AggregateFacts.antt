-- The algebra of aggregates: that over two lists of values is those over each, joined.
use Rattle.std.proofs.Common.{◌≡◌, ℕ, ◌+◌, ◌+ℤ◌, ℤ, pos, Bool, true, false, List, [], ◌∷◌, ◌++◌, map, refl, sym, ap, ap₂, ◌∙◌, arith, true≢false}
use Rattle.std.specs.Prelude.{◌==◌, if◌then◌else◌}
use Rattle.std.specs.Cmp.{IsTotalOrder, back_total}
use Rattle.std.specs.Ordering.{min_by_ordering, max_by_ordering, ordering_reverse}
use Rattle.std.specs.declared.cmp.Ordering.{Ordering}
use Rattle.std.specs.declared.cmp.Ordering.TheVariants.{Less, Equal, Greater}
use Rattle.std.proofs.lemmas.Bool.{eq-eqb, eqb-true}
use Rattle.std.proofs.lemmas.Int.{ints}
use Rattle.std.proofs.lemmas.List.{map-append}
use Rattle.ssb_cells.specs.Cell.{Cell, null, number, text}
use Rattle.ssb_cells.specs.Order.{cell_cmp}
use Rattle.ssb_cells.proofs.OrderLaws.{cell-same, cell_total}
use Rattle.ssb_plan.specs.JobShape.{JobShape}
use Rattle.ssb_query.specs.declared.column.BoundColumn.{BoundColumn}
use Rattle.ssb_trees.specs.declared.aggregate.Aggregate.{Aggregate}
use Rattle.ssb_trees.specs.declared.aggregate.Aggregate.TheVariants as aggregate
use Rattle.ssb_trees.specs.declared.aggregate.SetFunction.TheVariants as function
use Rattle.ssb_groups.specs.Aggregates.{agg, amount_of, count_of, arguments_at, cell_in, chosen, exact_sum, greater, lesser, totals, totals_from, value_count}
use Rattle.ssb_groups.specs.Joining.{added, joined, joined_each, joining_of}
use Rattle.ssb_groups.specs.Rows.{SeenRow}
use Rattle.ssb_groups.specs.Value.{Outcome, over, known}

-- ---- the first of two in a total order

module _ {X : Type 0} (R : X → X → Ordering) (o : IsTotalOrder R) (same : (x y : X) → R x y ≡ Equal → x ≡ y) where
  abbrev pub first : X → X → X
  first x y = min_by_ordering (R x y) x y

  back : (x y : X) → R x y ≡ Greater → R y x ≡ Less
  back x y e = o.antisymm y x ∙ ap ordering_reverse e

  forth : (x y : X) → R x y ≡ Less → R y x ≡ Greater
  forth x y e = o.antisymm y x ∙ ap ordering_reverse e

  pub first-comm : (x y : X) → first x y ≡ first y x
  first-comm x y = by (R x y) refl
    where
      by : (p : Ordering) → R x y ≡ p → min_by_ordering p x y ≡ first y x
      by Less e = sym (ap (λ p. min_by_ordering p y x) (forth x y e))
      by Equal e = same x y e ∙ sym (ap (λ p. min_by_ordering p y x) (o.antisymm y x ∙ ap ordering_reverse e))
      by Greater e = sym (ap (λ p. min_by_ordering p y x) (back x y e))

  pub first-assoc : (x y z : X) → first x (first y z) ≡ first (first x y) z
  first-assoc x y z = by (R x y) (R y z) refl refl
    where
      by : (p q : Ordering) → R x y ≡ p → R y z ≡ q → first x (min_by_ordering q y z) ≡ first (min_by_ordering p x y) z
      by Less Less e f = ap (λ p. min_by_ordering p x y) e ∙ sym (ap (λ p. min_by_ordering p x z) (o.trans x y z e f))
      by Less Equal e f = ap (λ w. first x w) (same y z f)
      by Less Greater e f = refl
      by Equal Less e f = let s = same x y e in ap (λ p. min_by_ordering p x y) e ∙ sym (ap (λ p. min_by_ordering p x z) (ap (λ w. R w z) s ∙ f))
      by Equal Equal e f = ap (λ w. first x w) (same y z f)
      by Equal Greater e f = refl
      by Greater Less e f = ap (λ p. min_by_ordering p x y) e ∙ sym (ap (λ p. min_by_ordering p y z) f)
      by Greater Equal e f = ap (λ p. min_by_ordering p x y) e ∙ sym (ap (λ p. min_by_ordering p y z) f)
      by Greater Greater e f = ap (λ p. min_by_ordering p x z) (forth z x (o.trans z y x (back y z f) (back x y e))) ∙ sym (ap (λ p. min_by_ordering p y z) f)

-- ---- the lesser of two values

abbrev is_null : Cell → Bool
is_null null = true
is_null (number n) = false
is_null (text t) = false

abbrev pick : Cell → Cell → Cell
pick = first cell_cmp cell_total cell-same

lesser-pick : (a b : Cell) → is_null a ≡ false → is_null b ≡ false → lesser a b ≡ pick a b
lesser-pick null b p q = cc
lesser-pick (number m) null p q = cc
lesser-pick (number m) (number n) p q = refl
lesser-pick (number m) (text t) p q = refl
lesser-pick (text s) null p q = cc
lesser-pick (text s) (number n) p q = refl
lesser-pick (text s) (text t) p q = refl

pick-some : (a b : Cell) → is_null a ≡ false → is_null b ≡ false → is_null (pick a b) ≡ false
pick-some a b p q = by (cell_cmp a b)
  where
    by : (o : Ordering) → is_null (min_by_ordering o a b) ≡ false
    by Less = p
    by Equal = p
    by Greater = q

pub lesser-null : (a : Cell) → lesser a null ≡ a
lesser-null null = refl
lesser-null (number n) = refl
lesser-null (text t) = refl

lesser-some : (a b c : Cell) → is_null a ≡ false → is_null b ≡ false → is_null c ≡ false → lesser a (lesser b c) ≡ lesser (lesser a b) c
lesser-some a b c p q r =
    ap (lesser a) (lesser-pick b c q r) ∙ lesser-pick a (pick b c) p (pick-some b c q r)
    ∙ first-assoc cell_cmp cell_total cell-same a b c
    ∙ sym (ap (λ x. lesser x c) (lesser-pick a b p q) ∙ lesser-pick (pick a b) c (pick-some a b p q) r)

is-null : (x : Cell) → is_null x ≡ true → x ≡ null
is-null null e = refl
is-null (number n) e = cc
is-null (text t) e = cc

lesser-by : (a b c : Cell) (p q r : Bool) → is_null a ≡ p → is_null b ≡ q → is_null c ≡ r → lesser a (lesser b c) ≡ lesser (lesser a b) c
lesser-by a b c true q r ea eb ec = let s : a ≡ null = is-null a ea in rw s refl
lesser-by a b c false true r ea eb ec = let s : b ≡ null = is-null b eb in rw s (sym (ap (λ x. lesser x c) (lesser-null a)))
lesser-by a b c false false true ea eb ec = let s : c ≡ null = is-null c ec in rw s (ap (lesser a) (lesser-null b) ∙ sym (lesser-null (lesser a b)))
lesser-by a b c false false false ea eb ec = lesser-some a b c ea eb ec

pub lesser-assoc : (a b c : Cell) → lesser a (lesser b c) ≡ lesser (lesser a b) c
lesser-assoc a b c = lesser-by a b c (is_null a) (is_null b) (is_null c) refl refl refl

pub lesser-comm : (a b : Cell) → lesser a b ≡ lesser b a
lesser-comm null b = sym (lesser-null b)
lesser-comm (number m) null = refl
lesser-comm (number m) (number n) = first-comm cell_cmp cell_total cell-same (number m) (number n)
lesser-comm (number m) (text t) = first-comm cell_cmp cell_total cell-same (number m) (text t)
lesser-comm (text s) null = refl
lesser-comm (text s) (number n) = first-comm cell_cmp cell_total cell-same (text s) (number n)
lesser-comm (text s) (text t) = first-comm cell_cmp cell_total cell-same (text s) (text t)

-- ---- the greater of two values: the first in the order turned round

abbrev turned : Cell → Cell → Ordering
turned a b = cell_cmp b a

turned_total : IsTotalOrder turned
turned_total = back_total cell_total

turned-same : (a b : Cell) → turned a b ≡ Equal → a ≡ b
turned-same a b e = sym (cell-same b a e)

greater-first : (a b : Cell) → greater a b ≡ first turned turned_total turned-same b a
greater-first a b = by (cell_cmp a b)
  where
    by : (o : Ordering) → max_by_ordering o a b ≡ min_by_ordering o b a
    by Less = refl
    by Equal = refl
    by Greater = refl

pub greater-assoc : (a b c : Cell) → greater a (greater b c) ≡ greater (greater a b) c
greater-assoc a b c =
    greater-first a (greater b c) ∙ ap (λ x. first turned turned_total turned-same x a) (greater-first b c)
    ∙ sym (first-assoc turned turned_total turned-same c b a)
    ∙ sym (greater-first (greater a b) c ∙ ap (λ x. first turned turned_total turned-same c x) (greater-first a b))

pub greater-comm : (a b : Cell) → greater a b ≡ greater b a
greater-comm a b = greater-first a b ∙ first-comm turned turned_total turned-same b a ∙ sym (greater-first b a)

pub greater-null : (b : Cell) → greater null b ≡ b
greater-null null = refl
greater-null (number n) = refl
greater-null (text t) = refl

-- ---- over two lists

pub exact_sum-append : (xs ys : List Outcome) → exact_sum (xs ++ ys) ≡ exact_sum xs +ℤ exact_sum ys
exact_sum-append [] ys = omega (arith, ints)
exact_sum-append (x ∷ xs) ys = omega (arith, ints, exact_sum-append xs ys)

pub value_count-append : (xs ys : List Outcome) → value_count (xs ++ ys) ≡ value_count xs + value_count ys
value_count-append [] ys = omega arith
value_count-append (x ∷ xs) ys = omega (arith, value_count-append xs ys)

-- no value has the sum 0
no_amount : (x : Outcome) → count_of x ≡ 0 → amount_of x ≡ pos 0
no_amount over e = refl
no_amount (known null) e = refl
no_amount (known (number n)) e = absurd (omega arith)
no_amount (known (text t)) e = refl

no_sum : (xs : List Outcome) → value_count xs ≡ 0 → exact_sum xs ≡ pos 0
no_sum [] e = refl
no_sum (x ∷ xs) e = let a = no_amount x (omega arith) in let b = no_sum xs (omega arith) in omega (arith, ints, a, b)

not_zero : (n : ℕ) → (n ≡ 0 → ⊥) → (n == 0) ≡ false
not_zero n h = by (n == 0) refl
  where
    by : (b : Bool) → (n == 0) ≡ b → b ≡ false
    by true e = absurd (h (eqb-true n 0 e))
    by false e = refl

sums : (n m : ℕ) (s t : ℤ) (b c : Bool) → (n == 0) ≡ b → (m == 0) ≡ c → (n ≡ 0 → s ≡ pos 0) → (m ≡ 0 → t ≡ pos 0)
    → (if (n + m) == 0 then null else number (s +ℤ t)) ≡ added (if b then null else number s) (if c then null else number t)
sums n m s t true true en em a b = let x = eqb-true n 0 en in let y = eqb-true m 0 em in ap (λ z. if z then null else number (s +ℤ t)) (eq-eqb (n + m) 0 (omega (arith, x, y)))
sums n m s t true false en em a b =
    let x = eqb-true n 0 en in
    let z = a x in
    let some : m ≡ 0 → ⊥ = λ h. true≢false (sym (eq-eqb m 0 h) ∙ em) in
    ap (λ z. if z then null else number (s +ℤ t)) (not_zero (n + m) (λ h. some (omega (arith, h)))) ∙ ap number (omega (arith, ints, z))
sums n m s t false true en em a b =
    let z = b (eqb-true m 0 em) in
    let some : n ≡ 0 → ⊥ = λ h. true≢false (sym (eq-eqb n 0 h) ∙ en) in
    ap (λ z. if z then null else number (s +ℤ t)) (not_zero (n + m) (λ h. some (omega (arith, h)))) ∙ ap number (omega (arith, ints, z))
sums n m s t false false en em a b =
    let some : n ≡ 0 → ⊥ = λ h. true≢false (sym (eq-eqb n 0 h) ∙ en) in
    ap (λ z. if z then null else number (s +ℤ t)) (not_zero (n + m) (λ h. some (omega (arith, h))))

sum-append : (xs ys : List Outcome) → (if value_count (xs ++ ys) == 0 then null else number (exact_sum (xs ++ ys))) ≡ added (if value_count xs == 0 then null else number (exact_sum xs)) (if value_count ys == 0 then null else number (exact_sum ys))
sum-append xs ys =
    ap₂ (λ n s. if n == 0 then null else number s) (value_count-append xs ys) (exact_sum-append xs ys)
    ∙ sums (value_count xs) (value_count ys) (exact_sum xs) (exact_sum ys) (value_count xs == 0) (value_count ys == 0) refl refl (no_sum xs) (no_sum ys)

count-append : (xs ys : List Outcome) → number (pos (value_count (xs ++ ys))) ≡ added (number (pos (value_count xs))) (number (pos (value_count ys)))
count-append xs ys = ap number (omega (arith, ints, value_count-append xs ys))

chosen-append : (choice : Cell → Cell → Cell) → ((c : Cell) → choice null c ≡ c) → ((a b c : Cell) → choice a (choice b c) ≡ choice (choice a b) c) → (xs ys : List Outcome) → chosen choice (xs ++ ys) ≡ choice (chosen choice xs) (chosen choice ys)
chosen-append choice none assoc [] ys = sym (none (chosen choice ys))
chosen-append choice none assoc (x ∷ xs) ys = ap (choice (cell_in x)) (chosen-append choice none assoc xs ys) ∙ assoc (cell_in x) (chosen choice xs) (chosen choice ys)

pub agg-append : (j : JobShape) (a : Aggregate BoundColumn) (xs ys : List Outcome) → agg a (xs ++ ys) ≡ joined (joining_of j a) (agg a xs) (agg a ys)
agg-append j aggregate.Rows xs ys = count-append xs ys
agg-append j (aggregate.Of function.Sum e) xs ys = sum-append xs ys
agg-append j (aggregate.Of function.Count e) xs ys = count-append xs ys
agg-append j (aggregate.Of function.Min e) xs ys = chosen-append lesser (λ c. refl) lesser-assoc xs ys
agg-append j (aggregate.Of function.Max e) xs ys = chosen-append greater greater-null greater-assoc xs ys

totals_from-append : (j : JobShape) (i : ℕ) (aggs : List (Aggregate BoundColumn)) (R Q : List SeenRow)
    → totals_from i aggs (R ++ Q) ≡ joined_each (map (joining_of j) aggs) (totals_from i aggs R) (totals_from i aggs Q)
totals_from-append j i [] R Q = refl
totals_from-append j i (a ∷ aggs) R Q =
    ap₂ (λ x xs. x ∷ xs) (ap (agg a) (map-append _ R Q) ∙ agg-append j a (arguments_at i R) (arguments_at i Q)) (totals_from-append j (i + 1) aggs R Q)

pub totals-append : (j : JobShape) (aggs : List (Aggregate BoundColumn)) (R Q : List SeenRow) → totals aggs (R ++ Q) ≡ joined_each (map (joining_of j) aggs) (totals aggs R) (totals aggs Q)
totals-append j aggs R Q = totals_from-append j 0 aggs R Q
