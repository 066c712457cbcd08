-- Loops that write the rows that pass to the front of a list.
use Rattle.std.proofs.Common.{◌≡◌, ◌∙◌, ⊎_elim, ◌+◌, ◌-◌, ◌<◌, ◌≤◌, ℕ, ℤ, pos, Bool, true, false, cond, List, [], ◌∷◌, ◌++◌, append-nil, length, take, drop, set, get_or, filter, map, suc, refl, sym, ap, arith, subst}
use Rattle.std.specs.List.{All, range_with_len}
use Rattle.std.proofs.lemmas.Bool.{cases_lt}
use Rattle.std.proofs.lemmas.Int.{ints}
use Rattle.std.proofs.lemmas.List.{get_or-drop, get_or-take, length-drop, length-map, length-take-le, take-set, drop_more, drop-set-lt, length-set, get_or-map, take-map, take_more_set, drop-map}
use Rattle.std.proofs.lemmas.List.Elements.{filter-append}
use Rattle.std.proofs.lemmas.List.Filters.{FiltersInPlace}
use Rattle.std.proofs.lemmas.List.FromFn.{get_or-range_with_len, length-range_with_len}
use Rattle.std.proofs.lemmas.Option.{same_Some, slice_get-get_or}
use Rattle.ssb_packed.specs.Lent.{kept_code}
use Rattle.ssb_sets.specs.Passing.{passes_at}
use Rattle.ssb_sets.specs.Values.{IsWithin, code_bounds}
use Rattle.ssb_sets.specs.declared.values.Bounds.{Bounds}
use Rattle.ssb_sets.proofs.NullFacts.{range-more}
use Rattle.ssb_sets.proofs.ParityFacts.{read-any}

-- the number that was read, among the wide ones
pub wide-read : {T : Type 0} (wide : T → ℤ) (numbers : List T) (i : ℕ) (x : T) → i < length numbers → x ≡ get_or numbers i x → get_or (map wide numbers) i (pos 0) ≡ wide x
wide-read wide numbers i x lt is = get_or-map wide numbers i x (pos 0) lt ∙ ap wide (sym is)

-- what is said of a row by the number that was read
pub says-row : (p : ℤ → Bool) (ns : List ℤ) (row : ℕ) (z : ℤ) (said : Bool) → get_or ns row (pos 0) ≡ z → said ≡ p z → passes_at p ns row ≡ said
says-row p ns row z said read told = ap p read ∙ sym told

-- one number more that lies within bounds
pub within-more : (b : Bounds) (f : ℕ → ℤ) (i : ℕ) (z : ℤ) → ((k : ℕ) → k < i → IsWithin b (f k)) → f i ≡ z → IsWithin b z → (k : ℕ) → k < i + 1 → IsWithin b (f k)
within-more b f i z before at is k lt = ⊎_elim
    (λ below. before k below)
    (λ past. let same : i ≡ k = omega (arith, past, lt) in subst (λ j. IsWithin b (f j)) same (subst (IsWithin b) (sym at) is))
    (cases_lt k i)

-- ---- rows that are listed

pub written-no : {p : ℕ → Bool} {xs ys : List ℕ} {k i : ℕ} (x : ℕ) → k ≤ i → FiltersInPlace p xs ys k (i + 1) → FiltersInPlace p xs (set ys k x) k (i + 1)
written-no {p} {xs} {ys} {k} {i} x le h = record {
  front = take-set ys k x ∙ h.front;
  rest = drop-set-lt (i + 1) ys k x (omega (arith, le)) ∙ h.rest;
  behind = omega (arith, le);
  within = h.within;
  long = length-set ys k x ∙ h.long;
}

-- the row that is read is still the one that was there
pub unread : {p : ℕ → Bool} {xs ys : List ℕ} {k i : ℕ} → FiltersInPlace p xs ys k i → i < length ys → get_or xs i 0 ≡ get_or ys i 0
unread {p} {xs} {ys} {k} {i} h lt =
    let long = h.long in
    ap (λ l. get_or l 0 0) (sym (drop_more xs i 0 (omega (arith, long, lt))) ∙ sym h.rest ∙ drop_more ys i 0 lt)

-- what holds of each row that is there holds of the one that is read
pub holds-there : {p : ℕ → Bool} {xs ys : List ℕ} {k i : ℕ} (P : ℕ → Type 0) → All P xs → FiltersInPlace p xs ys k i → i < length ys → P (get_or ys i 0)
holds-there {p} {xs} {ys} {k} {i} P all h lt =
    let long = h.long in
    subst P (unread h lt) (all i 0 (omega (arith, long, lt)))

-- an element that is there does not depend on what stands for those past the end
pub read-same : (ys : List ℕ) (i : ℕ) → i < length ys → get_or ys i 0 ≡ get_or ys i (get_or ys i 0)
read-same ys i lt = same_Some (get_or ys i 0) (get_or ys i (get_or ys i 0)) (sym (slice_get-get_or ys i 0 lt) ∙ slice_get-get_or ys i (get_or ys i 0) lt)

-- ---- tests that say the same of each row that is there

filter-same : (p q : ℕ → Bool) (xs : List ℕ) → ((k : ℕ) → k < length xs → p (get_or xs k 0) ≡ q (get_or xs k 0)) → filter p xs ≡ filter q xs
filter-same p q [] same = refl
filter-same p q (x ∷ xs) same =
    ap (λ b. cond b (x ∷ filter p xs) (filter p xs)) (same 0 (omega arith))
    ∙ ap (λ ys. cond (q x) (x ∷ ys) ys) (filter-same p q xs (λ k lt. same (suc k) (omega (arith, lt))))

-- ---- a stretch of the rows

-- what holds of each place of a stretch holds of each row
of-rows : (P : ℕ → Type 0) (from n : ℕ) → ((k : ℕ) → k < n → P (from + k)) → All P (range_with_len from n)
of-rows P from n each k d lt =
    let short : k < n = (let e = length-range_with_len from n in omega (arith, e, lt)) in
    subst P (sym (get_or-range_with_len from n k d short)) (each k short)

-- and the other way round
to-rows : (P : ℕ → Type 0) (from n : ℕ) → All P (range_with_len from n) → (k : ℕ) → k < n → P (from + k)
to-rows P from n all k lt = subst P (get_or-range_with_len from n k 0 lt) (all k 0 (let e = length-range_with_len from n in omega (arith, e, lt)))

module _ {T : Type 0} (wide : T → ℤ) (numbers some : List T) (from n : ℕ) (is : some ≡ take n (drop from numbers)) (there : from + n ≤ length numbers) where
  pub stretch-long : length some ≡ n
  stretch-long = ap length is ∙ length-take-le n (drop from numbers) (let e = length-drop from numbers in omega (arith, e, there))

  pub stretch-read : (k : ℕ) → k < n → get_or (map wide some) (from + k - from) (pos 0) ≡ get_or (map wide numbers) (from + k) (pos 0)
  stretch-read k lt =
      ap (λ j. get_or (map wide some) j (pos 0)) (let e : from + k - from ≡ k = omega arith in e)
      ∙ ap (λ xs. get_or (map wide xs) k (pos 0)) is
      ∙ ap (λ xs. get_or xs k (pos 0)) (sym (take-map wide n (drop from numbers)))
      ∙ get_or-take n (map wide (drop from numbers)) k (pos 0) lt
      ∙ ap (λ xs. get_or xs k (pos 0)) (sym (drop-map wide from numbers))
      ∙ get_or-drop from (map wide numbers) k (pos 0)

  pub stretch-within : (b : Bounds) → All (λ r. IsWithin b (get_or (map wide some) (r - from) (pos 0))) (range_with_len from (length some)) → All (λ r. IsWithin b (get_or (map wide numbers) r (pos 0))) (range_with_len from n)
  stretch-within b all = of-rows (λ r. IsWithin b (get_or (map wide numbers) r (pos 0))) from n
      (λ k lt. subst (IsWithin b) (stretch-read k lt) (to-rows (λ r. IsWithin b (get_or (map wide some) (r - from) (pos 0))) from (length some) all k (rw stretch-long lt)))

-- ---- rows of a stretch that are listed one after the other

-- what passes of one row more
one-more : (q : ℕ → Bool) (first i : ℕ) (b : Bool) → q (first + i) ≡ b → filter q (range_with_len first (i + 1)) ≡ filter q (range_with_len first i) ++ cond b ((first + i) ∷ []) []
one-more q first i b said = ap (filter q) (range-more first i) ∙ filter-append q (range_with_len first i) ((first + i) ∷ []) ∙ ap (λ t. filter q (range_with_len first i) ++ cond t ((first + i) ∷ []) []) said

pub listed-more : (q : ℕ → Bool) (first i left : ℕ) (rows : List ℕ) → left < length rows → q (first + i) ≡ true → take left rows ≡ filter q (range_with_len first i) → take (left + 1) (set rows left (first + i)) ≡ filter q (range_with_len first (i + 1))
listed-more q first i left rows room said before = take_more_set rows left (first + i) room ∙ ap (λ xs. xs ++ (first + i) ∷ []) before ∙ sym (one-more q first i true said)

pub listed-same : (q : ℕ → Bool) (first i left : ℕ) (rows : List ℕ) → q (first + i) ≡ false → take left rows ≡ filter q (range_with_len first i) → take left (set rows left (first + i)) ≡ filter q (range_with_len first (i + 1))
listed-same q first i left rows said before = take-set rows left (first + i) ∙ before ∙ sym (append-nil (filter q (range_with_len first i))) ∙ sym (one-more q first i false said)

-- ---- codes

code-read : (ns : List ℤ) (r : ℕ) → r < length (map pos (map kept_code ns)) → get_or (map pos (map kept_code ns)) r (pos 0) ≡ pos (kept_code (get_or ns r (pos 0)))
code-read ns r lt =
    let short : r < length (map kept_code ns) = (let e = length-map (map kept_code ns) pos in omega (arith, e, lt)) in
    get_or-map pos (map kept_code ns) r 0 (pos 0) short
    ∙ ap pos (get_or-map kept_code ns r (pos 0) 0 (let e = length-map ns kept_code in omega (arith, e, short)))

pub codes-same : (p : ℤ → Bool) (ns : List ℤ) (rows : List ℕ) → All (λ r. r < length (map pos (map kept_code ns))) rows → filter (passes_at (λ n. p (pos (kept_code n))) ns) rows ≡ filter (passes_at p (map pos (map kept_code ns))) rows
codes-same p ns rows all = filter-same (passes_at (λ n. p (pos (kept_code n))) ns) (passes_at p (map pos (map kept_code ns))) rows (λ k lt. ap p (sym (code-read ns (get_or rows k 0) (all k 0 lt))))

code-within : (n : ℤ) → IsWithin code_bounds (pos (kept_code n))
code-within n = grind (arith, ints)

-- and of all rows of a range
pub codes-listed : (p : ℤ → Bool) (ns : List ℤ) (from n : ℕ) → from + n ≤ length (map pos (map kept_code ns)) → filter (passes_at (λ n. p (pos (kept_code n))) ns) (range_with_len from n) ≡ filter (passes_at p (map pos (map kept_code ns))) (range_with_len from n)
codes-listed p ns from n there = codes-same p ns (range_with_len from n) (of-rows (λ r. r < length (map pos (map kept_code ns))) from n (λ k lt. omega (arith, there, lt)))

pub codes-within : (ns : List ℤ) (rows : List ℕ) → All (λ r. r < length (map pos (map kept_code ns))) rows → All (λ r. IsWithin code_bounds (get_or (map pos (map kept_code ns)) r (pos 0))) rows
codes-within ns rows all k d lt = subst (IsWithin code_bounds) (sym (code-read ns (get_or rows k d) (all k d lt))) (code-within (get_or ns (get_or rows k d) (pos 0)))

-- ---- within bounds

pub within-offset : (b : Bounds) (ns : List ℤ) (from n : ℕ) → ((k : ℕ) → k < n → IsWithin b (get_or ns k (pos 0))) → All (λ r. IsWithin b (get_or ns (r - from) (pos 0))) (range_with_len from n)
within-offset b ns from n each = of-rows (λ r. IsWithin b (get_or ns (r - from) (pos 0))) from n (λ k lt. subst (λ j. IsWithin b (get_or ns j (pos 0))) (let e : k ≡ from + k - from = omega arith in e) (each k lt))

-- of rows that were read one after the other
pub within-all : (b : Bounds) (ns : List ℤ) (rows : List ℕ) → ((k : ℕ) → k < length rows → IsWithin b (get_or ns (get_or rows k 0) (pos 0))) → All (λ r. IsWithin b (get_or ns r (pos 0))) rows
within-all b ns rows each k d lt = subst (λ r. IsWithin b (get_or ns r (pos 0))) (read-any rows k 0 d lt) (each k lt)
