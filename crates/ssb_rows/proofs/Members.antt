-- Lists of different keys that have the same members differ in their order alone.
use Rattle.std.proofs.Common.{◌≡◌, ◌∙◌, ◌++◌, ◌∷◌, [], ◌||◌, ◌&&◌, Bool, true, false, not, cond, List, refl, sym, ap, subst, true≢false, inl, inr}
use Rattle.std.specs.List.{list_any, filter, AllByRecursion, IsDistinct}
use Rattle.std.specs.List.Sorted.{IsPermutation}
use Rattle.std.proofs.lemmas.Bool.{and_parts, cases_Bool, or_parts}
use Rattle.std.proofs.lemmas.Bool.Decides.{Decides-int_eq}
use Rattle.std.proofs.lemmas.List.Elements.{filter-append}
use Rattle.std.proofs.lemmas.List.Folds.{list_any-append}
use Rattle.std.proofs.lemmas.List.Sorted.{IsPermutation-refl, IsPermutation-cons, IsPermutation-middle, IsPermutation-sym, IsPermutation-trans}
use Rattle.std.proofs.lemmas.Slice.Eq.{bytes_eq-Decides}
use Rattle.ssb_cells.specs.Cell.{Cell, null, number, text}
use Rattle.ssb_groups.specs.Rows.{Key, cell_eq, key_eq}
use Rattle.ssb_groups.proofs.KeyFacts.{key_eq_laws}
use Rattle.ssb_rows.specs.Result.{distinct}

-- ---- equal keys are the same

cell-same : (a b : Cell) → cell_eq a b ≡ true → a ≡ b
cell-same null null e = refl
cell-same null (number b) e = cc
cell-same null (text b) e = cc
cell-same (number a) null e = cc
cell-same (number a) (number b) e = ap number ((Decides-int_eq a b).0 e)
cell-same (number a) (text b) e = cc
cell-same (text a) null e = cc
cell-same (text a) (number b) e = cc
cell-same (text a) (text b) e = ap text ((bytes_eq-Decides a b).0 e)

pub key-same : (j k : Key) → key_eq j k ≡ true → j ≡ k
key-same [] [] e = refl
key-same [] (y ∷ k) e = cc
key-same (x ∷ j) [] e = cc
key-same (x ∷ j) (y ∷ k) e =
    let h = and_parts (cell_eq x y) (key_eq j k) e in
    let a : x ≡ y = cell-same x y h.0 in
    let b : j ≡ k = key-same j k h.1 in
    cc

-- ---- members

abbrev pub member : Key → List Key → Bool
member k ks = list_any (key_eq k) ks

abbrev pub Apart : List Key → Type 0
Apart [] = Unit {0}
Apart (k ∷ ks) = (member k ks ≡ false) × Apart ks

none_same : (k : Key) (ks : List Key) → AllByRecursion (λ j. key_eq k j ≡ false) ks → member k ks ≡ false
none_same k [] h = refl
none_same k (j ∷ ks) h = ap (λ b. b || member k ks) h.0 ∙ none_same k ks h.1

pub apart : (ks : List Key) → IsDistinct key_eq ks → Apart ks
unfolding IsDistinct
apart [] h = tt
apart (k ∷ ks) h = (none_same k ks h.0, apart ks h.1)

-- a member is somewhere
split : (k : Key) (ks : List Key) → member k ks ≡ true → (front : List Key) × (back : List Key) × (ks ≡ front ++ k ∷ back)
split k [] e = cc
split k (j ∷ ks) e =
    elim (cases_Bool (key_eq k j)) [
      | inl same ↦ ([], ks, ap (λ x. x ∷ ks) (sym (key-same k j same)))
      | inr other ↦ (let r = split k ks (sym (ap (λ b. b || member k ks) other) ∙ e) in (j ∷ r.0, r.1, ap (λ xs. j ∷ xs) r.2))
    ]

or_swap : (a b c : Bool) → (a || (b || c)) ≡ (b || (a || c))
or_swap true true c = refl
or_swap true false c = refl
or_swap false b c = refl

member-middle : (j k : Key) (front back : List Key) → member j (front ++ k ∷ back) ≡ (key_eq j k || member j (front ++ back))
member-middle j k front back =
    list_any-append (key_eq j) front (k ∷ back) ∙ or_swap (member j front) (key_eq j k) (member j back) ∙ ap (λ b. key_eq j k || b) (sym (list_any-append (key_eq j) front back))

-- keys that are all different, without one of them
apart-middle : (front back : List Key) (k : Key) → Apart (front ++ k ∷ back) → (member k (front ++ back) ≡ false) × Apart (front ++ back)
apart-middle [] back k h = h
apart-middle (a ∷ front) back k h =
    let r = apart-middle front back k h.1 in
    let o = or_parts (key_eq a k) (member a (front ++ back)) (sym (member-middle a k front back) ∙ h.0) in
    (ap (λ b. b || member k (front ++ back)) (key_eq_laws.symm k a ∙ o.0) ∙ r.0, (o.1, r.1))

-- ---- the same members

no_member : (k : Key) (ks : List Key) → member k (k ∷ ks) ≡ true
no_member k ks = ap (λ b. b || member k ks) (key_eq_laws.refl k)

rest_same : (x k : Key) (xs front back : List Key) (b : Bool) → key_eq k x ≡ b → (member x xs ≡ false) → (member x (front ++ back) ≡ false) → (key_eq k x || member k xs) ≡ (key_eq k x || member k (front ++ back)) → member k xs ≡ member k (front ++ back)
rest_same x k xs front back true e n m h =
    let is : k ≡ x = key-same k x e in
    ap (λ j. member j xs) is ∙ n ∙ sym m ∙ sym (ap (λ j. member j (front ++ back)) is)
rest_same x k xs front back false e n m h = sym (ap (λ b. b || member k xs) e) ∙ h ∙ ap (λ b. b || member k (front ++ back)) e

any_middle : (p : Key → Bool) (k : Key) (front back : List Key) → list_any p (front ++ k ∷ back) ≡ (p k || list_any p (front ++ back))
any_middle p k front back = list_any-append p front (k ∷ back) ∙ or_swap (list_any p front) (p k) (list_any p back) ∙ ap (λ b. p k || b) (sym (list_any-append p front back))

filter_middle : (p : Key → Bool) (k : Key) (xs front back : List Key) → IsPermutation (filter p xs) (filter p (front ++ back)) → IsPermutation (filter p (k ∷ xs)) (filter p (front ++ k ∷ back))
filter_middle p k xs front back h =
    let h' : IsPermutation (filter p xs) (filter p front ++ filter p back) = subst (IsPermutation (filter p xs)) (filter-append p front back) h in
    subst (IsPermutation (filter p (k ∷ xs))) (sym (filter-append p front (k ∷ back))) (by (p k) h')
  where
    by : (b : Bool) → IsPermutation (filter p xs) (filter p front ++ filter p back) → IsPermutation (cond b (k ∷ filter p xs) (filter p xs)) (filter p front ++ cond b (k ∷ filter p back) (filter p back))
    by true h = IsPermutation-trans _ _ _ (IsPermutation-cons k (filter p xs) (filter p front ++ filter p back) h) (IsPermutation-sym _ _ (IsPermutation-middle (filter p front) k (filter p back)))
    by false h = h

-- what a test keeps of the two differs in its order alone, and a test that one passes somewhere the other passes somewhere
pub same_members : (xs ys : List Key) → Apart xs → Apart ys → ((k : Key) → member k xs ≡ member k ys)
    → ((p : Key → Bool) → IsPermutation (filter p xs) (filter p ys)) × ((p : Key → Bool) → list_any p xs ≡ list_any p ys)
same_members [] [] a b h = (λ p. IsPermutation-refl [], λ p. refl)
same_members [] (y ∷ ys) a b h = absurd (true≢false (sym (no_member y ys) ∙ sym (h y)))
same_members (x ∷ xs) ys a b h =
    let (front, back, is) = split x ys (sym (h x) ∙ no_member x xs) in
    let (gone, left) = apart-middle front back x (subst Apart is b) in
    let rest = same_members xs (front ++ back) a.1 left (λ k. rest_same x k xs front back (key_eq k x) refl a.0 gone (h k ∙ ap (member k) is ∙ member-middle k x front back)) in (
      λ p. subst (λ ks. IsPermutation (filter p (x ∷ xs)) (filter p ks)) (sym is) (filter_middle p x xs front back (rest.0 p)),
      λ p. ap (λ b. p x || b) (rest.1 p) ∙ sym (any_middle p x front back) ∙ sym (ap (list_any p) is),
    )

-- ---- each key once

and_false : (a : Bool) → (a && false) ≡ false
and_false true = refl
and_false false = refl

filtered_head : (k x y : Key) (rest : Bool) (b c d : Bool) → key_eq x y ≡ b → key_eq k y ≡ c → key_eq x k ≡ d → (cond (not b) (c || (rest && not d)) (rest && not d)) ≡ ((c || rest) && not d)
filtered_head k x y rest true true true e f g = and_false rest
filtered_head k x y rest true true false e f g = absurd (true≢false (sym e ∙ key_eq_laws.symm x y ∙ clash))
  where
    clash : key_eq y x ≡ false
    clash = sym (key_eq_laws.congr k y x f) ∙ key_eq_laws.symm k x ∙ g
filtered_head k x y rest true false d e f g = refl
filtered_head k x y rest false true true e f g = absurd (true≢false (sym clash ∙ e))
  where
    clash : key_eq x y ≡ true
    clash = key_eq_laws.congr x k y g ∙ f
filtered_head k x y rest false true false e f g = refl
filtered_head k x y rest false false d e f g = refl

member_filter : (k x : Key) (ys : List Key) → member k (filter (λ j. not (key_eq x j)) ys) ≡ (member k ys && not (key_eq x k))
member_filter k x [] = refl
member_filter k x (y ∷ ys) =
    member_cond (not (key_eq x y)) k y (filter (λ j. not (key_eq x j)) ys)
    ∙ ap (λ b. cond (not (key_eq x y)) (key_eq k y || b) b) (member_filter k x ys)
    ∙ filtered_head k x y (member k ys) (key_eq x y) (key_eq k y) (key_eq x k) refl refl refl
  where
    member_cond : (b : Bool) (k y : Key) (rest : List Key) → member k (cond b (y ∷ rest) rest) ≡ cond b (key_eq k y || member k rest) (member k rest)
    member_cond true k y rest = refl
    member_cond false k y rest = refl

filter_lacks : (x k : Key) (ys : List Key) → member x ys ≡ false → member x (filter (λ j. not (key_eq k j)) ys) ≡ false
filter_lacks x k ys e = member_filter x k ys ∙ ap (λ b. b && not (key_eq k x)) e

filter_apart : (x : Key) (ys : List Key) → Apart ys → Apart (filter (λ j. not (key_eq x j)) ys)
filter_apart x [] h = tt
filter_apart x (y ∷ ys) h = by (not (key_eq x y)) (filter_apart x ys h.1)
  where
    by : (b : Bool) → Apart (filter (λ j. not (key_eq x j)) ys) → Apart (cond b (y ∷ filter (λ j. not (key_eq x j)) ys) (filter (λ j. not (key_eq x j)) ys))
    by true rest = (filter_lacks y x ys h.0, rest)
    by false rest = rest

not_itself : (x : Key) (b : Bool) → (b && not (key_eq x x)) ≡ false
not_itself x b = ap (λ c. b && not c) (key_eq_laws.refl x) ∙ and_false b

pub distinct_apart : (ks : List Key) → Apart (distinct ks)
distinct_apart [] = tt
distinct_apart (k ∷ ks) = (member_filter k k (distinct ks) ∙ not_itself k (member k (distinct ks)), filter_apart k (distinct ks) (distinct_apart ks))

or_absorbs : (k j : Key) (rest : Bool) (b : Bool) → key_eq k j ≡ b → (key_eq k j || (rest && not (key_eq j k))) ≡ (key_eq k j || rest)
or_absorbs k j rest true e = ap (λ c. c || (rest && not (key_eq j k))) e ∙ sym (ap (λ c. c || rest) e)
or_absorbs k j rest false e =
    let f : key_eq j k ≡ false = key_eq_laws.symm j k ∙ e in
    ap (λ c. key_eq k j || (rest && not c)) f ∙ ap (λ c. key_eq k j || c) (and_true rest)
  where
    and_true : (b : Bool) → (b && not false) ≡ b
    and_true true = refl
    and_true false = refl

pub member_distinct : (k : Key) (ks : List Key) → member k (distinct ks) ≡ member k ks
member_distinct k [] = refl
member_distinct k (j ∷ ks) =
    ap (λ b. key_eq k j || b) (member_filter k j (distinct ks)) ∙ or_absorbs k j (member k (distinct ks)) (key_eq k j) refl ∙ ap (λ b. key_eq k j || b) (member_distinct k ks)
