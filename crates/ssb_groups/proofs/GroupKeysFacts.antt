-- The keys of groups, by the two sets that keep them.
use Rattle.std.proofs.Common.{◌≡◌, ◌⊎◌, ◌∙◌, inl, inr, ◌||◌, ◌+◌, ◌-◌, ℕ, zero, suc, Bool, true, false, not, cond, if◌then◌else◌, nat_eq, List, [], ◌∷◌, ◌++◌, length, map, get_or, slice_get, take, position, Some, Vec, refl, sym, ap, ap₂, subst, arith}
use Rattle.std.specs.Cmp.Lexicographic.{pointwise}
use Rattle.std.specs.List.{AllByRecursion, IsDistinct, list_any, position_or_len}
use Rattle.std.specs.declared.alloc.Global.{Global}
use Rattle.std.proofs.lemmas.List.{length-map, map-append}
use Rattle.std.proofs.lemmas.List.Quantifiers.{position-Some}
use Rattle.std.proofs.lemmas.Option.{same_Some, slice_get-get_or}
use Rattle.indexmap.specs.IndexSet.{insert_key}
use Rattle.ssb_keys.specs.KeySets.{numbers_in}
use Rattle.ssb_keys.specs.Sets.{Opens as NumberOpens}
use Rattle.ssb_keys.specs.declared.kept.Kept.{Kept}
use Rattle.ssb_plan.specs.JobShape.{JobShape}
use Rattle.ssb_groups.specs.GroupKeys as form
use Rattle.ssb_groups.specs.GroupKeys.{AreUnique, GroupKey, cells_equal, keys_in, of_cells, same_cells}
use Rattle.ssb_groups.specs.Keys.{HasCells, HasNumbers, IsKey, cells_in}
use Rattle.ssb_groups.specs.Places.{AreKeys, IsPlaced, Opens}
use Rattle.ssb_groups.specs.declared.keys.Keys.{Keys}
use Rattle.ssb_groups.proofs.KeyFacts.{key_eq_laws, keys_equal}
use Rattle.ssb_groups.proofs.PlaceFacts.{keys-more, opens-inserted, placed-by}

append-none : {X : Type 0} (xs : List X) → xs ++ [] ≡ xs
append-none [] = refl
append-none (x ∷ xs) = ap (λ l. x ∷ l) (append-none xs)

-- ---- a key is inserted into one of the sets

module _ {X : Type 0} (f : X → GroupKey) (e : X → X → Bool) (same : (x y : X) → keys_equal (f x) (f y) ≡ e x y) where
  get-mapped : (xs : List X) (p : ℕ) (x : X) → slice_get xs p ≡ Some x → slice_get (map f xs) p ≡ Some (f x)
  get-mapped [] p x h = cc
  get-mapped (y ∷ xs) zero x h = ap (λ z. Some (f z)) (same_Some y x h)
  get-mapped (y ∷ xs) (suc p) x h = get-mapped xs p x h

  any-mapped : (x : X) (xs : List X) → list_any (keys_equal (f x)) (map f xs) ≡ list_any (e x) xs
  any-mapped x [] = refl
  any-mapped x (y ∷ xs) = ap₂ (λ a b. a || b) (same x y) (any-mapped x xs)

  place-mapped : (x : X) (xs : List X) → position_or_len (keys_equal (f x)) (map f xs) ≡ position_or_len (e x) xs
  place-mapped x [] = refl
  place-mapped x (y ∷ xs) = ap₂ (λ b n. cond (not b) (1 + n) 0) (same x y) (place-mapped x xs)

  insert-mapped : (xs : List X) (x : X) → map f (insert_key e xs x) ≡ insert_key keys_equal (map f xs) (f x)
  insert-mapped xs x = by (list_any (e x) xs) ∙ ap (λ b. if b then map f xs else map f xs ++ f x ∷ []) (sym (any-mapped x xs))
    where
      by : (b : Bool) → map f (if b then xs else xs ++ x ∷ []) ≡ (if b then map f xs else map f xs ++ f x ∷ [])
      by true = refl
      by false = map-append f xs (x ∷ [])

  opens-mapped : (j : JobShape) (xs new : List X) (x : X) (p : ℕ) → AreKeys j (map f xs) → IsKey j (f x) → new ≡ insert_key e xs x → p ≡ position_or_len (e x) xs → (there : X) × (slice_get new p ≡ Some there) × (e x there ≡ true)
      → Opens j (map f xs) (map f new) (cells_in j (f x)) p × AreKeys j (map f new)
  opens-mapped j xs new x p are is made at found =
      opens-inserted j (map f xs) (map f new) (f x) p are is (ap (map f) made ∙ insert-mapped xs x) (at ∙ sym (place-mapped x xs)) (f found.0, get-mapped new p found.0 found.1, same x found.0 ∙ found.2)

-- ---- the keys at places

pub number-at : (ns : List ℕ) (ks : List GroupKey) (p n : ℕ) → slice_get ns p ≡ Some n → slice_get (map form.Number ns ++ ks) p ≡ Some (form.Number n)
number-at [] ks p n h = cc
number-at (m ∷ ns) ks zero n h = ap (λ x. Some (form.Number x)) (same_Some m n h)
number-at (m ∷ ns) ks (suc p) n h = number-at ns ks p n h

-- ---- a job has keys of one form alone

no-cells : (j : JobShape) (ns : List ℕ) (vs : List (Vec Kept Global)) → HasNumbers j → AreKeys j (map form.Number ns ++ map of_cells vs) → vs ≡ []
no-cells j [] [] has are = refl
no-cells j [] (v ∷ vs) has are = absurd (omega (arith, has, are.0.form))
no-cells j (n ∷ ns) vs has are = no-cells j ns vs has are.1

no-numbers : (j : JobShape) (ns : List ℕ) (vs : List (Vec Kept Global)) → HasCells j → AreKeys j (map form.Number ns ++ map of_cells vs) → ns ≡ []
no-numbers j [] vs has are = refl
no-numbers j (n ∷ ns) vs has are = absurd (omega (arith, has, are.0.form.0))

pub number-opens : (j : JobShape) (ns new : List ℕ) (vs : List (Vec Kept Global)) (n p : ℕ) → AreKeys j (map form.Number ns ++ map of_cells vs) → IsKey j (form.Number n) → NumberOpens ns new n p
    → Opens j (map form.Number ns ++ map of_cells vs) (map form.Number new ++ map of_cells vs) (cells_in j (form.Number n)) p × AreKeys j (map form.Number new ++ map of_cells vs)
number-opens j ns new [] n p are is opens = (record { placed = placed; grown = grown opens.grown }, keys opens.grown)
  where
    placed : IsPlaced j (map form.Number new ++ []) (cells_in j (form.Number n)) p
    placed = record { key = form.Number n; there = number-at new [] p n opens.placed; same = key_eq_laws.refl (cells_in j (form.Number n)) }

    more : new ≡ ns ++ n ∷ [] → map form.Number new ++ [] ≡ (map form.Number ns ++ []) ++ form.Number n ∷ []
    more same = append-none (map form.Number new) ∙ ap (map form.Number) same ∙ map-append form.Number ns (n ∷ []) ∙ ap (λ l. l ++ form.Number n ∷ []) (sym (append-none (map form.Number ns)))

    grown : (new ≡ ns) ⊎ ((new ≡ ns ++ n ∷ []) × (p ≡ length ns)) → (map form.Number new ++ [] ≡ map form.Number ns ++ []) ⊎ ((k : GroupKey) × (map form.Number new ++ [] ≡ (map form.Number ns ++ []) ++ k ∷ []) × (p ≡ length (map form.Number ns ++ [])))
    grown (inl same) = inl (ap (λ l. map form.Number l ++ []) same)
    grown (inr both) = inr (form.Number n, more both.0, both.1 ∙ sym (ap length (append-none (map form.Number ns)) ∙ length-map ns form.Number))

    keys : (new ≡ ns) ⊎ ((new ≡ ns ++ n ∷ []) × (p ≡ length ns)) → AreKeys j (map form.Number new ++ [])
    keys (inl same) = subst (λ l. AreKeys j (map form.Number l ++ [])) (sym same) are
    keys (inr both) = subst (AreKeys j) (sym (more both.0)) (keys-more j (map form.Number ns ++ []) (form.Number n) are is)
number-opens j ns new (v ∷ vs) n p are is opens = let none = no-cells j ns (v ∷ vs) is.form.0 are in cc

pub cells-open : (j : JobShape) (ns : List ℕ) (vs new : List (Vec Kept Global)) (v : Vec Kept Global) (p : ℕ) → AreKeys j (map form.Number ns ++ map of_cells vs) → IsKey j (of_cells v) → new ≡ insert_key same_cells vs v → p ≡ position_or_len (same_cells v) vs → (there : Vec Kept Global) × (slice_get new p ≡ Some there) × (same_cells v there ≡ true)
    → Opens j (map form.Number ns ++ map of_cells vs) (map form.Number ns ++ map of_cells new) (cells_in j (of_cells v)) p × AreKeys j (map form.Number ns ++ map of_cells new)
cells-open j [] vs new v p are is made at found = opens-mapped of_cells same_cells (λ x y. refl) j vs new v p are is made at found
cells-open j (n ∷ ns) vs new v p are is made at found = let none = no-numbers j (n ∷ ns) vs is.form are in cc

-- a key of cells stands where it is found
pub cells-found : (j : JobShape) (ns : List ℕ) (vs : List (Vec Kept Global)) (cells : List Kept) (p : ℕ) → AreKeys j (map form.Number ns ++ map of_cells vs) → IsKey j (form.Cells cells) → Some p ≡ position (λ v. pointwise cells_equal cells v.items) vs
    → IsPlaced j (map form.Number ns ++ map of_cells vs) (cells_in j (form.Cells cells)) p
cells-found j [] [] cells p are is found = cc
cells-found j [] (v ∷ vs) cells p are is found =
    let at = position-Some (λ v. pointwise cells_equal cells v.items) (v ∷ vs) p v (sym found) in
    let there = get_or (v ∷ vs) p v in
    placed-by j (map of_cells (v ∷ vs)) (form.Cells cells) (of_cells there) p are is (get-mapped of_cells same_cells (λ x y. refl) (v ∷ vs) p there (slice_get-get_or (v ∷ vs) p v at.0)) at.1
cells-found j (n ∷ ns) vs cells p are is found = let none = no-numbers j (n ∷ ns) vs is.form are in cc

-- ---- the first keys

map-take : {X Y : Type 0} (f : X → Y) (n : ℕ) (xs : List X) → map f (take n xs) ≡ take n (map f xs)
map-take f zero xs = refl
map-take f (suc n) [] = refl
map-take f (suc n) (x ∷ xs) = ap (λ l. f x ∷ l) (map-take f n xs)

pub keys-taken : (n m : ℕ) (ns : List ℕ) (vs : List (Vec Kept Global)) → m ≡ n - length ns → map form.Number (take n ns) ++ map of_cells (take m vs) ≡ take n (map form.Number ns ++ map of_cells vs)
keys-taken zero m ns vs left = let none : m ≡ 0 = omega (arith, left) in ap (λ k. map of_cells (take k vs)) none
keys-taken (suc n) m [] vs left = let all : m ≡ suc n = omega (arith, left) in ap (λ k. map of_cells (take k vs)) all ∙ map-take of_cells (suc n) vs
keys-taken (suc n) m (x ∷ ns) vs left = ap (λ l. form.Number x ∷ l) (keys-taken n m ns vs (omega (arith, left)))

-- ---- all keys are different

all-cells : (n : ℕ) (vs : List (Vec Kept Global)) → AllByRecursion (λ k. keys_equal (form.Number n) k ≡ false) (map of_cells vs)
all-cells n [] = tt
all-cells n (v ∷ vs) = (refl, all-cells n vs)

all-numbers : (n : ℕ) (ns : List ℕ) (vs : List (Vec Kept Global)) → AllByRecursion (λ m. nat_eq n m ≡ false) ns → AllByRecursion (λ k. keys_equal (form.Number n) k ≡ false) (map form.Number ns ++ map of_cells vs)
all-numbers n [] vs h = all-cells n vs
all-numbers n (m ∷ ns) vs h = (h.0, all-numbers n ns vs h.1)

others : (v : Vec Kept Global) (vs : List (Vec Kept Global)) → AllByRecursion (λ w. same_cells v w ≡ false) vs → AllByRecursion (λ k. keys_equal (of_cells v) k ≡ false) (map of_cells vs)
others v [] h = tt
others v (w ∷ vs) h = (h.0, others v vs h.1)

both-distinct : (ns : List ℕ) (vs : List (Vec Kept Global)) → IsDistinct nat_eq ns → IsDistinct same_cells vs → IsDistinct keys_equal (map form.Number ns ++ map of_cells vs)
unfolding IsDistinct
both-distinct [] [] h g = tt
both-distinct [] (v ∷ vs) h g = (others v vs g.0, both-distinct [] vs h g.1)
both-distinct (n ∷ ns) vs h g = (all-numbers n ns vs h.0, both-distinct ns vs h.1 g)

pub keys-distinct : (k : Keys) → AreUnique k → IsDistinct keys_equal (keys_in k)
keys-distinct k unique = both-distinct (numbers_in k.numbers) k.cells.keys unique.numbers unique.cells
