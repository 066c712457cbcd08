-- The rows of the bits that are set.
use Rattle.std.proofs.Common.{◌≡◌, ◌∙◌, ◌≢◌, ⊎_elim, ℕ, ◌+◌, ◌-◌, ◌*◌, ◌/◌, ◌%◌, ◌^◌, ◌<◌, ◌≤◌, ◌++◌, zero, suc, cond, filter, [], ◌∷◌, take, Bool, true, false, eqb, List, length, set, get_or, append-nil, refl, sym, ap, arith, w64}
use Rattle.std.specs.List.{range_with_len}
use Rattle.std.proofs.lemmas.Bool.{cases_eq}
use Rattle.std.proofs.lemmas.List.{append_assoc, take_more_set}
use Rattle.std.proofs.lemmas.List.Elements.{filter-append}
use Rattle.std.proofs.lemmas.Nat.Bits.{bit_at-trailing_zeros, bit_at-zero}
use Rattle.std.specs.Int.{trailing_zeros}
use Rattle.ssb_sets.specs.Marks.{AreMarked, has_bit, is_marked, rows_of}
use Rattle.ssb_sets.proofs.MarkFacts.{without, without-other, without-same}

-- ---- filters of ranges

pub filter-range-same : (p q : ℕ → Bool) (a n : ℕ) → ((i : ℕ) → i < n → p (a + i) ≡ q (a + i)) → filter p (range_with_len a n) ≡ filter q (range_with_len a n)
filter-range-same p q a zero same = refl
filter-range-same p q a (suc n) same =
    let here : p a ≡ q a = (let e : a ≡ a + 0 = omega arith in ap p e ∙ same 0 (omega arith) ∙ ap q (sym e)) in
    ap (λ b. cond b (a ∷ filter p (range_with_len (a + 1) n)) (filter p (range_with_len (a + 1) n))) here
    ∙ ap (λ xs. cond (q a) (a ∷ xs) xs) (filter-range-same p q (a + 1) n (λ i lt. let e : (a + 1) + i ≡ a + suc i = omega arith in ap p e ∙ same (suc i) (omega (arith, lt)) ∙ ap q (sym e)))

pub filter-range-none : (p : ℕ → Bool) (a n : ℕ) → ((i : ℕ) → i < n → p (a + i) ≡ false) → filter p (range_with_len a n) ≡ []
filter-range-none p a zero none = refl
filter-range-none p a (suc n) none =
    let here : p a ≡ false = (let e : a ≡ a + 0 = omega arith in ap p e ∙ none 0 (omega arith)) in
    ap (λ b. cond b (a ∷ filter p (range_with_len (a + 1) n)) (filter p (range_with_len (a + 1) n))) here
    ∙ filter-range-none p (a + 1) n (λ i lt. let e : (a + 1) + i ≡ a + suc i = omega arith in ap p e ∙ none (suc i) (omega (arith, lt)))

pub range-split : (a m n : ℕ) → range_with_len a (m + n) ≡ range_with_len a m ++ range_with_len (a + m) n
range-split a zero n = (λ j. range_with_len ((let e : a ≡ a + zero = omega arith in e) j) ((let e : zero + n ≡ n = omega arith in e) j))
range-split a (suc m) n =
    ap (range_with_len a) (let e : suc m + n ≡ suc (m + n) = omega arith in e)
    ∙ ap (λ t. a ∷ t) (range-split (a + 1) m n ∙ ap (λ b. range_with_len (a + 1) m ++ range_with_len b n) (let e : a + 1 + m ≡ a + suc m = omega arith in e))

filter-first : (p q : ℕ → Bool) (a n k : ℕ) → k < n → ((i : ℕ) → i < k → p (a + i) ≡ false) → p (a + k) ≡ true → q (a + k) ≡ false → ((i : ℕ) → i < n → i ≢ k → q (a + i) ≡ p (a + i))
    → filter p (range_with_len a n) ≡ (a + k) ∷ filter q (range_with_len a n)
filter-first p q a zero k lt below at gone others = absurd (omega (arith, lt))
filter-first p q a (suc n) zero lt below at gone others =
    let e : a + 0 ≡ a = omega arith in
    ap (λ b. cond b (a ∷ filter p (range_with_len (a + 1) n)) (filter p (range_with_len (a + 1) n))) (ap p (sym e) ∙ at)
    ∙ (λ j. sym e j ∷ filter-range-same p q (a + 1) n (λ i lt'. let f : (a + 1) + i ≡ a + suc i = omega arith in ap p f ∙ sym (others (suc i) (omega (arith, lt')) (omega arith)) ∙ ap q (sym f)) j)
    ∙ ap (λ b. (a + 0) ∷ cond b (a ∷ filter q (range_with_len (a + 1) n)) (filter q (range_with_len (a + 1) n))) (sym (ap q (sym e) ∙ gone))
filter-first p q a (suc n) (suc k) lt below at gone others =
    let e : a + 0 ≡ a = omega arith in
    let first : p a ≡ false = ap p (sym e) ∙ below 0 (omega arith) in
    let f : (a + 1) + k ≡ a + suc k = omega arith in
    ap (λ b. cond b (a ∷ filter p (range_with_len (a + 1) n)) (filter p (range_with_len (a + 1) n))) first
    ∙ filter-first p q (a + 1) n k (omega (arith, lt)) (λ i lt'. let g : (a + 1) + i ≡ a + suc i = omega arith in ap p g ∙ below (suc i) (omega (arith, lt'))) (ap p f ∙ at) (ap q f ∙ gone) (λ i lt' ne. let g : (a + 1) + i ≡ a + suc i = omega arith in ap q g ∙ others (suc i) (omega (arith, lt')) (λ eq. ne (omega (arith, eq))) ∙ ap p (sym g))
    ∙ ap (λ x. x ∷ filter q (range_with_len (a + 1) n)) f
    ∙ ap (λ b. (a + suc k) ∷ cond b (a ∷ filter q (range_with_len (a + 1) n)) (filter q (range_with_len (a + 1) n))) (sym (ap q (sym e) ∙ others 0 (omega arith) (omega arith) ∙ below 0 (omega arith)))

-- ---- the rows of one word: the lowest bit that is set is the first row

at-bit : (word base i : ℕ) (b : Bool) → has_bit word i ≡ b → has_bit word ((base + i) - base) ≡ b
at-bit word base i b is = ap (has_bit word) (let e : (base + i) - base ≡ i = omega arith in e) ∙ is

pub lowest : (word bit : ℕ) → (word ≡ 0 → ⊥) → word < 2 ^ 64 → bit ≡ trailing_zeros w64 word → has_bit word bit ≡ true
lowest word bit some fits is =
    ap (has_bit word) is ∙ ap (λ x. eqb x 1) (bit_at-trailing_zeros w64 word (omega (arith, some)) fits).1

pub rows_of-first : (word base bit : ℕ) → (word ≡ 0 → ⊥) → word < 2 ^ 64 → bit ≡ trailing_zeros w64 word → rows_of word base ≡ (base + bit) ∷ rows_of (without word bit) base
unfolding rows_of
rows_of-first word base bit some fits is =
    let low = bit_at-trailing_zeros w64 word (omega (arith, some)) fits in
    let lt : bit < 64 = rw is low.0 in
    filter-first (λ row. has_bit word (row - base)) (λ row. has_bit (without word bit) (row - base)) base 64 bit lt
    (λ i below. at-bit word base i false (ap (λ x. eqb x 1) (low.2 i (rw (← is) below))))
    (at-bit word base bit true (lowest word bit some fits is))
    (at-bit (without word bit) base bit false (without-same word bit lt))
    (λ i lt' other. at-bit (without word bit) base i _ (without-other word bit i lt lt' other) ∙ sym (at-bit word base i (has_bit word i) refl))

pub rows_of-none : (base : ℕ) → rows_of 0 base ≡ []
unfolding rows_of
rows_of-none base = filter-range-none (λ row. has_bit 0 (row - base)) base 64 (λ i lt. ap (λ x. eqb x 1) (bit_at-zero ((base + i) - base)))

filter-few : (p : ℕ → Bool) (a n : ℕ) → length (filter p (range_with_len a n)) ≤ n
filter-few p a zero = omega arith
filter-few p a (suc n) =
    let rest = filter-few p (a + 1) n in
    elim (p a) as (λ b. length (cond b (a ∷ filter p (range_with_len (a + 1) n)) (filter p (range_with_len (a + 1) n))) ≤ suc n) [ true ↦ omega (arith, rest) | false ↦ omega (arith, rest) ]

-- no more than the word has bits
pub rows_of-few : (word base : ℕ) → length (rows_of word base) ≤ 64
unfolding rows_of
rows_of-few word base = filter-few (λ row. has_bit word (row - base)) base 64

-- rows are written, and those of the bits that are left are to be
pub record Writing (before : List ℕ) (base start whole word left : ℕ) (rows : List ℕ) : Type 0 where
  pub count : left + length (rows_of word base) ≡ start + length (rows_of whole base)
  pub so_far : take left rows ++ rows_of word base ≡ before ++ rows_of whole base
  pub of_whole : (i : ℕ) → i < 64 → has_bit word i ≡ true → has_bit whole i ≡ true

module _ (before : List ℕ) (base start whole word left bit : ℕ) (rows : List ℕ) (some : word ≡ 0 → ⊥) (fits : word < 2 ^ 64) (is : bit ≡ trailing_zeros w64 word) (h : Writing before base start whole word left rows) where
  pub bit-below : bit < 64
  bit-below = rw is (bit_at-trailing_zeros w64 word (omega (arith, some)) fits).0

  pub bit-set : has_bit whole bit ≡ true
  bit-set = h.of_whole bit bit-below (lowest word bit some fits is)

  pub has-room : start + 64 ≤ length rows → left < length rows
  has-room room =
      let one = ap length (rows_of-first word base bit some fits is) in
      let few = rows_of-few whole base in
      let count = h.count in
      omega (arith, one, few, count, room)

  pub fewer : length (rows_of (without word bit) base) < length (rows_of word base)
  fewer = let one = ap length (rows_of-first word base bit some fits is) in omega (arith, one)

  pub writes-one : left < length rows → Writing before base start whole (without word bit) (left + 1) (set rows left (base + bit))
  writes-one lt =
      let first = rows_of-first word base bit some fits is in
      let one = ap length first in
      let count = h.count in
      record {
        count = omega (arith, one, count);
        so_far =
            ap (λ xs. xs ++ rows_of (without word bit) base) (take_more_set rows left (base + bit) lt) ∙ append_assoc (take left rows) ((base + bit) ∷ []) (rows_of (without word bit) base)
            ∙ ap (λ xs. take left rows ++ xs) (sym first) ∙ h.so_far;
        of_whole = λ i small said. ⊎_elim
            (λ here. ap (has_bit whole) here ∙ bit-set)
            (λ other. h.of_whole i small (sym (without-other word bit i bit-below small other) ∙ said))
            (cases_eq i bit);
      }

-- ---- the rows of many words

pub place-marked : (words : List ℕ) (at i : ℕ) → i < 64 → is_marked words (64 * at + i) ≡ has_bit (get_or words at 0) i
place-marked words at i lt = (λ j. has_bit (get_or words ((let e : (64 * at + i) / 64 ≡ at = omega (arith, lt) in e) j) 0) ((let e : (64 * at + i) % 64 ≡ i = omega (arith, lt) in e) j))

module _ (words : List ℕ) (from at : ℕ) where
  pub rows-more : filter (λ r. is_marked words (r - from)) (range_with_len from (64 * (at + 1))) ≡ filter (λ r. is_marked words (r - from)) (range_with_len from (64 * at)) ++ rows_of (get_or words at 0) (from + 64 * at)
  unfolding rows_of
  rows-more =
      ap (λ n. filter (λ r. is_marked words (r - from)) (range_with_len from n)) (let e : 64 * (at + 1) ≡ 64 * at + 64 = omega arith in e)
      ∙ ap (filter (λ r. is_marked words (r - from))) (range-split from (64 * at) 64)
      ∙ filter-append (λ r. is_marked words (r - from)) (range_with_len from (64 * at)) (range_with_len (from + 64 * at) 64)
      ∙ ap (λ xs. filter (λ r. is_marked words (r - from)) (range_with_len from (64 * at)) ++ xs) (filter-range-same (λ r. is_marked words (r - from)) (λ r. has_bit (get_or words at 0) (r - (from + 64 * at))) (from + 64 * at) 64 same)
    where
      same : (i : ℕ) → i < 64 → is_marked words (from + 64 * at + i - from) ≡ has_bit (get_or words at 0) (from + 64 * at + i - (from + 64 * at))
      same i lt = (λ j. has_bit (get_or words ((let e : (from + 64 * at + i - from) / 64 ≡ at = omega (arith, lt) in e) j) 0) ((let e : (from + 64 * at + i - from) % 64 ≡ from + 64 * at + i - (from + 64 * at) = omega (arith, lt) in e) j))

-- the rows of all bits are those of which the test is true
pub rows-all : (p : ℕ → Bool) (words : List ℕ) (from count long : ℕ) → count ≤ long → AreMarked p from count words → filter (λ r. is_marked words (r - from)) (range_with_len from long) ≡ filter p (range_with_len from count)
rows-all p words from count long le marked =
    ap (λ n. filter (λ r. is_marked words (r - from)) (range_with_len from n)) (let e : long ≡ count + (long - count) = omega (arith, le) in e)
    ∙ ap (filter (λ r. is_marked words (r - from))) (range-split from count (long - count))
    ∙ filter-append (λ r. is_marked words (r - from)) (range_with_len from count) (range_with_len (from + count) (long - count))
    ∙ (λ j. filter-range-same (λ r. is_marked words (r - from)) p from count (λ i lt. ap (is_marked words) (let e : from + i - from ≡ i = omega arith in e) ∙ marked.each i lt) j
    ++ filter-range-none (λ r. is_marked words (r - from)) (from + count) (long - count) (λ i lt. ap (is_marked words) (let e : from + count + i - from ≡ count + i = omega arith in e) ∙ marked.none (count + i) (omega arith)) j)
    ∙ append-nil (filter p (range_with_len from count))
