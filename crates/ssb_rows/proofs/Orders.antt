-- Laws of the order of rows.
use Rattle.std.proofs.Common.{◌≡◌, ◌∙◌, ◌∷◌, [], List, ℕ, Bool, true, false, ◌+◌, ◌<◌, length, map, refl, sym, ap, subst, arith, suc, get_or, if◌then◌else◌}
use Rattle.std.specs.Bool.{⊤}
use Rattle.std.proofs.lemmas.List.Sums.{sum_by-cons}
use Rattle.std.proofs.lemmas.List.Sorted.{ranks_by, sum_by-IsPermutation}
use Rattle.std.proofs.lemmas.Cmp.{tied_itself}
use Rattle.std.specs.Cmp.{IsTotalOrder, IsStrictWeakOrder, then_total, on_total, back_total}
use Rattle.std.specs.Cmp.Derive.{point_total}
use Rattle.std.specs.Cmp.Lexicographic.{slice_cmp, lists_total}
use Rattle.std.specs.List.{sum_by, AllByRecursion}
use Rattle.std.specs.List.Sorted.{IsPermutation, IsSorted, IsSortedBy}
use Rattle.std.specs.Ordering.{is_lt, is_eq, ordering_then, ordering_reverse}
use Rattle.std.specs.declared.cmp.Ordering.{Ordering}
use Rattle.std.specs.declared.cmp.Ordering.TheVariants.{Less, Equal, Greater}
use Rattle.std.proofs.lemmas.List.{get_or-map, length-map}
use Rattle.ssb_cells.specs.Order.{cell_cmp}
use Rattle.ssb_cells.proofs.OrderLaws.{cell-same, cell_total}
use Rattle.ssb_rows.specs.Order.{Row, at, by_keys, row_cmp, IsOrdered}
use Rattle.ssb_query.specs.declared.query.BoundOrder.{BoundOrder}

-- ---- rows

by_total : (down : Bool) (p : ℕ) → IsTotalOrder (λ (a b : Row). if down then cell_cmp (at b p) (at a p) else cell_cmp (at a p) (at b p))
by_total true p = back_total (on_total (λ r. at r p) cell_total)
by_total false p = on_total (λ r. at r p) cell_total

by_keys_total : (keys : List BoundOrder) → IsTotalOrder (by_keys keys)
by_keys_total [] = point_total
by_keys_total (key ∷ keys) = then_total (by_total key.descending key.item) (by_keys_total keys)

pub row_total : (keys : List BoundOrder) → IsTotalOrder (row_cmp keys)
row_total keys = then_total (by_keys_total keys) (lists_total cell_total)

-- ---- what does not differ is the same

first-equal : (o p : Ordering) → ordering_then o p ≡ Equal → o ≡ Equal
first-equal Less p e = e
first-equal Equal p e = refl
first-equal Greater p e = e

then-same : (o p : Ordering) → ordering_then o p ≡ Equal → p ≡ Equal
then-same Less p e = cc
then-same Equal p e = e
then-same Greater p e = cc

slice-same : {X : Type 0} (R : X → X → Ordering) → ((x y : X) → R x y ≡ Equal → x ≡ y) → (xs ys : List X) → slice_cmp R xs ys ≡ Equal → xs ≡ ys
slice-same R same [] [] e = refl
slice-same R same [] (y ∷ ys) e = cc
slice-same R same (x ∷ xs) [] e = cc
slice-same R same (x ∷ xs) (y ∷ ys) e =
    let h : x ≡ y = same x y (first-equal (R x y) (slice_cmp R xs ys) e) in
    let t : xs ≡ ys = slice-same R same xs ys (then-same (R x y) (slice_cmp R xs ys) e) in
    cc

row-same : (keys : List BoundOrder) (a b : Row) → row_cmp keys a b ≡ Equal → a ≡ b
row-same keys a b e = slice-same cell_cmp cell-same a b (then-same (by_keys keys a b) (slice_cmp cell_cmp a b) e)

-- ---- one sorted list

module _ {X : Type 0} (R : X → X → Ordering) (o : IsTotalOrder R) (same : (x y : X) → R x y ≡ Equal → x ≡ y) where
  abbrev lt : X → X → Bool
  lt x y = is_lt (R x y)

  abbrev Floor : X → List X → Type 0
  Floor x xs = AllByRecursion (λ z. lt z x ≡ false) xs

  abbrev Up : List X → Type 0
  Up [] = ⊤
  Up (x ∷ xs) = Floor x xs × Up xs

  weak : IsStrictWeakOrder lt
  weak = ranks_by o (λ x. x)

  floor-lower : (x y : X) (zs : List X) → lt y x ≡ false → Floor y zs → Floor x zs
  floor-lower x y [] h f = tt
  floor-lower x y (z ∷ zs) h f = (weak.chain z y x f.0 h, floor-lower x y zs h f.1)

  tail-sorted : (x : X) (xs : List X) → IsSortedBy lt (x ∷ xs) → IsSortedBy lt xs
  tail-sorted x xs up = λ k d low high. shifted (k + 1 + 1) (k + 1) k d (omega arith) (omega arith) (up (k + 1) d (omega arith) (omega arith)) where
    shifted : (i j k : ℕ) (d : X) → i ≡ suc (k + 1) → j ≡ suc k → lt (get_or (x ∷ xs) i d) (get_or (x ∷ xs) j d) ≡ false → lt (get_or xs (k + 1) d) (get_or xs k d) ≡ false
    shifted i j k d p q h =
        subst (λ w. lt (get_or (x ∷ xs) (suc (k + 1)) d) (get_or (x ∷ xs) w d) ≡ false) q (subst (λ w. lt (get_or (x ∷ xs) w d) (get_or (x ∷ xs) j d) ≡ false) p h)

  pub up-from : (xs : List X) → IsSortedBy lt xs → Up xs
  up-from [] up = tt
  up-from (x ∷ []) up = (tt, tt)
  up-from (x ∷ y ∷ ys) up =
      let u : Up (y ∷ ys) = up-from (y ∷ ys) (tail-sorted x (y ∷ ys) up) in
      let h : lt y x ≡ false = up 0 x (omega arith) (omega arith) in
      ((h, floor-lower x y ys h u.0), u)

  abbrev one : Bool → ℕ
  one true = 1
  one false = 0

  abbrev count : X → List X → ℕ
  count x [] = 0
  count x (y ∷ ys) = one (is_eq (R x y)) + count x ys

  count-sum : (x : X) (xs : List X) → count x xs ≡ sum_by (λ y. one (is_eq (R x y))) xs
  count-sum x [] = refl
  count-sum x (y ∷ ys) = ap (λ n. one (is_eq (R x y)) + n) (count-sum x ys) ∙ sym (sum_by-cons (λ y. one (is_eq (R x y))) y ys)

  equal-at : (r : Ordering) → is_eq r ≡ true → r ≡ Equal
  equal-at Less e = cc
  equal-at Equal e = refl
  equal-at Greater e = cc

  own : (x : X) → R x x ≡ Equal
  own x = tied_itself o x

  lt-equal : (r : Ordering) → r ≡ Equal → is_lt r ≡ false
  lt-equal r e = ap is_lt e

  -- what stands in a list is not below its floor
  above : (x y : X) (zs : List X) → Floor y zs → 0 < count x zs → lt x y ≡ false
  above x y [] f h = absurd (omega arith)
  above x y (z ∷ zs) f h = above-at x y z zs f.0 (λ k. above x y zs f.1 k) h (is_eq (R x z)) refl where
    above-at : (x y z : X) (zs : List X) → lt z y ≡ false → (0 < count x zs → lt x y ≡ false) → 0 < one (is_eq (R x z)) + count x zs → (b : Bool) → is_eq (R x z) ≡ b → lt x y ≡ false
    above-at x y z zs f k h true e = ap is_lt (o.congr x z y (equal-at (R x z) e)) ∙ f
    above-at x y z zs f k h false e = k (let q : 0 < one false + count x zs = subst (λ b. 0 < one b + count x zs) e h in omega (arith, q))

  -- a list has its head
  counts-head : (x : X) (xs : List X) → 0 < count x (x ∷ xs)
  counts-head x xs = subst (λ r. 0 < one (is_eq r) + count x xs) (sym (own x)) (omega arith)

  neither : (r q : Ordering) → r ≡ ordering_reverse q → is_lt r ≡ false → is_lt q ≡ false → r ≡ Equal
  neither Less q e f g = cc
  neither Equal q e f g = refl
  neither Greater Less e f g = cc
  neither Greater Equal e f g = cc
  neither Greater Greater e f g = cc

  -- what is no lower than a floor's owner and stands with it
  above-head : (x y : X) (ys : List X) → Floor y ys → 0 < count x (y ∷ ys) → lt x y ≡ false
  above-head x y ys f h = above x y (y ∷ ys) (ap is_lt (own y), f) h

  heads : (x y : X) (xs ys : List X) → Floor x xs → Floor y ys → ((z : X) → count z (x ∷ xs) ≡ count z (y ∷ ys)) → x ≡ y
  heads x y xs ys f g c =
      same x y (neither (R x y) (R y x) (o.antisymm x y)
      (above-head x y ys g (subst (λ n. 0 < n) (c x) (counts-head x xs)))
      (above-head y x xs f (subst (λ n. 0 < n) (sym (c y)) (counts-head y ys))))

  pub one-list : (xs ys : List X) → Up xs → Up ys → ((x : X) → count x xs ≡ count x ys) → xs ≡ ys
  one-list [] [] u v c = refl
  one-list [] (y ∷ ys) u v c = let h = counts-head y ys in let e = c y in absurd (omega (arith, h, e))
  one-list (x ∷ xs) [] u v c = let h = counts-head x xs in let e = c x in absurd (omega (arith, h, e))
  one-list (x ∷ xs) (y ∷ ys) u v c =
      let h : x ≡ y = heads x y xs ys u.0 v.0 c in
      let t : xs ≡ ys = one-list xs ys u.1 v.1 (λ z. tails z x y xs ys h (c z)) in
      cc
    where
      tails : (z x y : X) (xs ys : List X) → x ≡ y → one (is_eq (R z x)) + count z xs ≡ one (is_eq (R z y)) + count z ys → count z xs ≡ count z ys
      tails z x y xs ys h e = let k : one (is_eq (R z x)) ≡ one (is_eq (R z y)) = ap (λ w. one (is_eq (R z w))) h in omega (arith, k, e)

  pub one-sorted : (bag xs ys : List X) → IsPermutation bag xs → IsPermutation bag ys → IsSorted R xs → IsSorted R ys → xs ≡ ys
  one-sorted bag xs ys p q u v =
      one-list xs ys (up-from xs u) (up-from ys v)
      (λ x. count-sum x xs ∙ sum_by-IsPermutation (λ y. one (is_eq (R x y))) bag xs p ∙ sym (sum_by-IsPermutation (λ y. one (is_eq (R x y))) bag ys q) ∙ sym (count-sum x ys))

pub one-order : (keys : List BoundOrder) (bag xs ys : List Row) → IsOrdered keys bag xs → IsOrdered keys bag ys → xs ≡ ys
one-order keys bag xs ys a b = one-sorted (row_cmp keys) (row_total keys) (row-same keys) bag xs ys a.same b.same a.sorted b.sorted

-- ---- a sort by what rows show

pub sorted-map : {X Y : Type 0} (less : Y → Y → Bool) (f : X → Y) (xs : List X) → IsSortedBy (λ a b. less (f a) (f b)) xs → IsSortedBy less (map f xs)
sorted-map less f [] up = λ k d low high. absurd (omega arith)
sorted-map less f (x ∷ xs) up = λ k d low high.
    let n : length (map f (x ∷ xs)) ≡ length (x ∷ xs) = length-map (x ∷ xs) f in
    let low' : k + 1 < length (x ∷ xs) = omega (arith, n, high) in
    let a : get_or (map f (x ∷ xs)) (k + 1) d ≡ f (get_or (x ∷ xs) (k + 1) x) = get_or-map f (x ∷ xs) (k + 1) x d low' in
    let b : get_or (map f (x ∷ xs)) k d ≡ f (get_or (x ∷ xs) k x) = get_or-map f (x ∷ xs) k x d (omega (arith, low')) in
    rw (a, b) (up k x low low')
