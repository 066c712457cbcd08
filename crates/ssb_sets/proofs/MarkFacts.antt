-- Bits of words: which are set, after some are cleared.
use Rattle.std.proofs.Common.{◌≡◌, ◌∙◌, ◌≢◌, ⊎_elim, ℕ, ℤ, pos, map, drop, take, ◌+◌, ◌-◌, ◌*◌, ◌/◌, ◌%◌, ◌^◌, ◌<◌, ◌≤◌, ◌&&◌, min, max, Bool, true, false, not, eqb, ltb, List, [], length, set, get_or, get_or-set_same, get_or-set_other, bit_and, refl, sym, ap, arith, w64}
use Rattle.std.proofs.lemmas.Bool.{cases_eq, cases_lt, le-ltb, lt-ltb}
use Rattle.std.proofs.lemmas.Bool.Decides.{nat_tests}
use Rattle.std.proofs.lemmas.List.{drop-map, get_or-drop, get_or_past, length-drop, take_all}
use Rattle.std.proofs.lemmas.Nat.{one_shl, pow_pos, shr-shr, shr_split}
use Rattle.std.proofs.lemmas.Nat.Bits.{bit_at-lt, bit_at_above, bit_at_and, bit_at_cat_high, bit_at_cat_low, bit_at_clear_other, bit_at_clear_same, bit_at_not, bit_at_ones, bit_at_ones_above, bit_at_or, bit_at-zero}
use Rattle.std.specs.Int.{bit_at, bit_not}
use Rattle.std.specs.Int.RustNames.{bit_or}
use Rattle.ssb_packed.specs.Lent.{flag_at}
use Rattle.ssb_sets.proofs.NullFacts.{no-flag}
use Rattle.ssb_sets.specs.Marks.{AreMarked, has_bit, is_marked}

-- ---- one word

and-ones : (x y : ℕ) → x < 2 → y < 2 → eqb (min x y) 1 ≡ (eqb x 1 && eqb y 1)
and-ones x y a b = grind (arith, nat_tests)

not-one : (x : ℕ) → x < 2 → eqb (1 - x) 1 ≡ not (eqb x 1)
not-one x lt = grind (arith, nat_tests)

pub has_bit-and : (a b i : ℕ) → has_bit (bit_and a b) i ≡ (has_bit a i && has_bit b i)
has_bit-and a b i = ap (λ x. eqb x 1) (bit_at_and a b i) ∙ and-ones (bit_at a i) (bit_at b i) (bit_at-lt a i) (bit_at-lt b i)

pub has_bit-not : (a i : ℕ) → a < 2 ^ 64 → i < 64 → has_bit (bit_not w64 a) i ≡ not (has_bit a i)
has_bit-not a i fits lt = ap (λ x. eqb x 1) (bit_at_not w64 a i fits lt) ∙ not-one (bit_at a i) (bit_at-lt a i)

-- the word without a bit
abbrev pub without : ℕ → ℕ → ℕ
without word bit = bit_and word (bit_not w64 (1 * 2 ^ bit % 2 ^ 64))

pub without-same : (word bit : ℕ) → bit < 64 → has_bit (without word bit) bit ≡ false
without-same word bit lt = ap (λ x. eqb x 1) (bit_at_clear_same w64 word bit lt)

pub without-other : (word bit i : ℕ) → bit < 64 → i < 64 → i ≢ bit → has_bit (without word bit) i ≡ has_bit word i
without-other word bit i lt below ne = ap (λ x. eqb x 1) (bit_at_clear_other w64 word bit lt i below ne)

-- the first bits say what a test says, and all behind them are set
pub record Picked (p : ℕ → Bool) (word i : ℕ) : Type 0 where
  pub done : (k : ℕ) → k < i → has_bit word k ≡ p k
  pub ahead : (k : ℕ) → i ≤ k → k < 64 → has_bit word k ≡ true

pub picked-start : (p : ℕ → Bool) → Picked p (2 ^ 64 - 1) 0
picked-start p = record {
  done = λ k lt. absurd (omega (arith, lt));
  ahead = λ k le lt. ap (λ x. eqb x 1) (bit_at_ones 64 k lt);
}

module _ (p : ℕ → Bool) (word i : ℕ) (lt : i < 64) (before : Picked p word i) where
  pub picked-without : p i ≡ false → Picked p (without word i) (i + 1)
  picked-without fails = record {
    done = λ k below. ⊎_elim
        (λ here. ap (has_bit (without word i)) here ∙ without-same word i lt ∙ sym fails ∙ ap p (sym here))
        (λ other. let less : k < i = omega (arith, below, other) in without-other word i k lt (omega (arith, less, lt)) other ∙ before.done k less)
        (cases_eq k i);
    ahead = λ k above small. without-other word i k lt small (λ e. omega (arith, e, above)) ∙ before.ahead k (omega (arith, above)) small;
  }

  pub picked-with : p i ≡ true → Picked p word (i + 1)
  picked-with passes = record {
    done = λ k below. ⊎_elim
        (λ here. ap (has_bit word) here ∙ before.ahead i (omega arith) lt ∙ sym passes ∙ ap p (sym here))
        (λ other. before.done k (omega (arith, below, other)))
        (cases_eq k i);
    ahead = λ k above small. before.ahead k (omega (arith, above)) small;
  }

-- ---- many words

-- the bits of the first places are set if they were and a test says so, and all others are as they were
pub record Narrowed (q : ℕ → Bool) (before words : List ℕ) (n : ℕ) : Type 0 where
  pub done : (i : ℕ) → i < n → is_marked words i ≡ (is_marked before i && q i)
  pub ahead : (i : ℕ) → n ≤ i → is_marked words i ≡ is_marked before i

pub narrowed-start : (q : ℕ → Bool) (words : List ℕ) → Narrowed q words words 0
narrowed-start q words = record { done = λ i lt. absurd (omega (arith, lt)); ahead = λ i le. refl }

-- a word of which only the bits of another stay
abbrev pub narrow : List ℕ → ℕ → ℕ → List ℕ
narrow words at word = set words at (bit_and (get_or words at 0) word)

pub narrow-same : (words : List ℕ) (at word i : ℕ) → at < length words → i / 64 ≡ at → is_marked (narrow words at word) i ≡ (is_marked words i && has_bit word (i % 64))
narrow-same words at word i lt here =
    ap (λ k. has_bit (get_or (narrow words at word) k 0) (i % 64)) here
    ∙ ap (λ w. has_bit w (i % 64)) (get_or-set_same words at _ 0 lt)
    ∙ has_bit-and (get_or words at 0) word (i % 64)
    ∙ ap (λ k. has_bit (get_or words k 0) (i % 64) && has_bit word (i % 64)) (sym here)

pub narrow-other : (words : List ℕ) (at word i : ℕ) → i / 64 ≢ at → is_marked (narrow words at word) i ≡ is_marked words i
narrow-other words at word i ne = ap (λ w. has_bit w (i % 64)) (get_or-set_other words at (i / 64) _ 0 ne)

and-none : (a b : Bool) → a ≡ false → (a && b) ≡ false
and-none false b e = refl
and-none true b e = absurd (true-false e)
  where
    true-false : true ≡ false → ⊥
    true-false h = cc

module _ (q : ℕ → Bool) (before words : List ℕ) (at word : ℕ) (lt : at < length words) (so_far : Narrowed q before words (64 * at)) where
  here-says : (i : ℕ) → i / 64 ≡ at → has_bit word (i % 64) ≡ q (64 * at + i % 64) → is_marked (narrow words at word) i ≡ (is_marked before i && q i)
  here-says i here says =
      narrow-same words at word i lt here
      ∙ (λ j. so_far.ahead i (omega (arith, here)) j && (says ∙ ap q (let e : 64 * at + i % 64 ≡ i = omega (arith, here) in e)) j)

  pub narrowed-more : ((j : ℕ) → j < 64 → has_bit word j ≡ q (64 * at + j)) → Narrowed q before (narrow words at word) (64 * (at + 1))
  narrowed-more says = record {
    done = λ i below. ⊎_elim
        (λ here. here-says i here (says (i % 64) (omega arith)))
        (λ other. narrow-other words at word i other ∙ so_far.done i (omega (arith, below, other)))
        (cases_eq (i / 64) at);
    ahead = λ i above. narrow-other words at word i (λ e. omega (arith, e, above)) ∙ so_far.ahead i (omega (arith, above));
  }

  -- the last word, of which only some bits are tested
  module _ (n : ℕ) (few : n ≤ 64 * at + 64) where
    pub last-each : ((j : ℕ) → 64 * at + j < n → has_bit word j ≡ q (64 * at + j)) → (i : ℕ) → i < n → is_marked (narrow words at word) i ≡ (is_marked before i && q i)
    last-each says i below = ⊎_elim
        (λ here. here-says i here (says (i % 64) (omega (arith, here, below))))
        (λ other. narrow-other words at word i other ∙ so_far.done i (omega (arith, below, other, few)))
        (cases_eq (i / 64) at)

    pub last-none : 64 * at ≤ n → (i : ℕ) → n ≤ i → is_marked before i ≡ false → is_marked (narrow words at word) i ≡ false
    last-none start i above unset = ⊎_elim
        (λ here. narrow-same words at word i lt here ∙ and-none (is_marked words i) (has_bit word (i % 64)) (so_far.ahead i (omega (arith, start, above)) ∙ unset))
        (λ other. narrow-other words at word i other ∙ so_far.ahead i (omega (arith, start, above)) ∙ unset)
        (cases_eq (i / 64) at)

-- ---- marks that say what a test says

module _ (p q r : ℕ → Bool) (from count : ℕ) (before words : List ℕ) where
  pub marks-narrowed : AreMarked p from count before → ((i : ℕ) → i < count → is_marked words i ≡ (is_marked before i && q i)) → ((i : ℕ) → count ≤ i → is_marked before i ≡ false → is_marked words i ≡ false) → ((i : ℕ) → i < count → q i ≡ r (from + i))
      → AreMarked (λ row. p row && r row) from count words
  marks-narrowed marked each none same = record {
    each = λ i lt. each i lt ∙ (λ j. marked.each i lt j && same i lt j);
    none = λ i le. none i le (marked.none i le);
  }

  -- ---- marks less the rows whose flag is set

  pub marks-cleared : (long : ℕ) → count ≤ long → AreMarked p from count before → ((i : ℕ) → i < long → is_marked words i ≡ (is_marked before i && r (from + i))) → ((i : ℕ) → long ≤ i → is_marked words i ≡ is_marked before i) → AreMarked (λ row. p row && r row) from count words
  marks-cleared long le marked each same = record {
    each = λ i lt. each i (omega (arith, le, lt)) ∙ ap (λ b. b && r (from + i)) (marked.each i lt);
    none = λ i past. ⊎_elim
        (λ below. each i below ∙ and-none (is_marked before i) (r (from + i)) (marked.none i past))
        (λ above. same i above ∙ marked.none i past)
        (cases_lt i long);
  }

-- where there are no flags
pub marks-unflagged : (p : ℕ → Bool) (from count : ℕ) (flags words : List ℕ) → flags ≡ [] → AreMarked p from count words → AreMarked (λ row. p row && not (flag_at flags row)) from count words
marks-unflagged p from count flags words none marked = record {
  each = λ i lt. marked.each i lt ∙ sym (ap (λ b. p (from + i) && not b) (ap (λ fs. flag_at fs (from + i)) none ∙ no-flag (from + i)) ∙ and-true (p (from + i)));
  none = marked.none;
}
  where
    and-true : (b : Bool) → (b && true) ≡ b
    and-true true = refl
    and-true false = refl

-- ---- the bits of 64 rows from one on, of two words that follow one another

bit_at-mod : (n j i : ℕ) → i < j → bit_at (n % 2 ^ j) i ≡ bit_at n i
bit_at-mod n j i lt = sym (bit_at_cat_low (n / 2 ^ j) j (n % 2 ^ j) i lt) ∙ ap (λ m. bit_at m i) (shr_split n j)

shifted-right : (n s i : ℕ) → bit_at (n / 2 ^ s) i ≡ bit_at n (s + i)
shifted-right n s i = ap (λ m. m % 2) (shr-shr n s i)

shifted-left-low : (n k i : ℕ) → i < 64 → i < k → bit_at (n * 2 ^ k % 2 ^ 64) i ≡ 0
shifted-left-low n k i lt below =
    bit_at-mod (n * 2 ^ k) 64 i lt
    ∙ ap (λ m. bit_at m i) (let e : n * 2 ^ k ≡ n * 2 ^ k + 0 = omega arith in e)
    ∙ bit_at_cat_low n k 0 i below ∙ bit_at-zero i

shifted-left-high : (n k i : ℕ) → i < 64 → k ≤ i → bit_at (n * 2 ^ k % 2 ^ 64) i ≡ bit_at n (i - k)
shifted-left-high n k i lt above =
    bit_at-mod (n * 2 ^ k) 64 i lt
    ∙ ap (λ m. bit_at m i) (let e : n * 2 ^ k ≡ n * 2 ^ k + 0 = omega arith in e)
    ∙ bit_at_cat_high n k 0 i (pow_pos k) above

max-left : (x y : ℕ) → y ≡ 0 → max x y ≡ x
max-left x y e = omega (arith, e)

max-right : (x y : ℕ) → x ≡ 0 → max x y ≡ y
max-right x y e = omega (arith, e)

module _ (words : List ℕ) (first i : ℕ) (lt : i < 64) where
  aligned-here : (k : ℕ) → (first + i) / 64 ≡ first / 64 → (first + i) % 64 ≡ k → has_bit (get_or words (first / 64) 0) k ≡ is_marked words (first + i)
  aligned-here k same at = (λ j. has_bit (get_or words (sym same j) 0) (sym at j))

  pub flags-aligned : first % 64 ≡ 0 → has_bit (get_or words (first / 64) 0) i ≡ is_marked words (first + i)
  flags-aligned none = aligned-here i (omega (arith, none, lt)) (omega (arith, none, lt))

  -- of two words that follow one another
  pub flags-joined : get_or words (first / 64) 0 < 2 ^ 64 → has_bit (bit_or (get_or words (first / 64) 0 / 2 ^ (first % 64)) (get_or words (first / 64 + 1) 0 * 2 ^ (64 - first % 64) % 2 ^ 64)) i ≡ is_marked words (first + i)
  flags-joined fits =
      let here = get_or words (first / 64) 0 in
      let next = get_or words (first / 64 + 1) 0 in
      let s = first % 64 in
      ap (λ x. eqb x 1) (bit_at_or (here / 2 ^ s) (next * 2 ^ (64 - s) % 2 ^ 64) i)
      ∙ ⊎_elim
      (λ low.
      ap (λ x. eqb x 1) (
      (let none : bit_at (next * 2 ^ (64 - s) % 2 ^ 64) i ≡ 0 = shifted-left-low next (64 - s) i lt (omega (arith, low)) in max-left (bit_at (here / 2 ^ s) i) _ none)
      ∙ shifted-right here s i)
      ∙ aligned-here (s + i) (omega (arith, low, lt)) (omega (arith, low, lt)))
      (λ high.
      let next-place : (first + i) / 64 ≡ first / 64 + 1 = omega (arith, high, lt) in
      let bit : (first + i) % 64 ≡ i - (64 - s) = omega (arith, high, lt) in
      ap (λ x. eqb x 1) (
      (let none : bit_at (here / 2 ^ s) i ≡ 0 = shifted-right here s i ∙ bit_at_above here 64 (s + i) fits high in max-right _ (bit_at (next * 2 ^ (64 - s) % 2 ^ 64) i) none)
      ∙ shifted-left-high next (64 - s) i lt (omega (arith, high)))
      ∙ (λ j. has_bit (get_or words (sym next-place j) 0) (sym bit j)))
      (cases_lt (s + i) 64)

-- ---- all marks

pub low-ones : (count i : ℕ) → count < 64 → has_bit (1 * 2 ^ count % 2 ^ 64 - 1) i ≡ ltb i count
low-ones count i lt =
    ap (λ n. has_bit (n - 1) i) (one_shl count 64 lt)
    ∙ ⊎_elim
    (λ below. ap (λ x. eqb x 1) (bit_at_ones count i below) ∙ sym (lt-ltb i count below))
    (λ above. ap (λ x. eqb x 1) (bit_at_ones_above count i above) ∙ sym (le-ltb i count above))
    (cases_lt i count)

pub all-ones : (count i : ℕ) → 64 ≤ count → i < 64 → has_bit (2 ^ 64 - 1) i ≡ ltb i count
all-ones count i many lt = ap (λ x. eqb x 1) (bit_at_ones 64 i lt) ∙ sym (lt-ltb i count (omega (arith, many, lt)))

ltb-same : (a b c d : ℕ) → (a < b → c < d) → (b ≤ a → d ≤ c) → ltb a b ≡ ltb c d
ltb-same a b c d first second = ⊎_elim
    (λ lt. lt-ltb a b lt ∙ sym (lt-ltb c d (first lt)))
    (λ le. le-ltb a b le ∙ sym (le-ltb c d (second le)))
    (cases_lt a b)

pub filled-more : (words : List ℕ) (at word count : ℕ) → at < length words → ((j : ℕ) → j < 64 → has_bit word j ≡ ltb j (count - 64 * at)) → ((i : ℕ) → i < 64 * at → is_marked words i ≡ ltb i count)
    → (i : ℕ) → i < 64 * (at + 1) → is_marked (set words at word) i ≡ ltb i count
filled-more words at word count lt says before i below = ⊎_elim
    (λ here.
    ap (λ k. has_bit (get_or (set words at word) k 0) (i % 64)) here
    ∙ ap (λ w. has_bit w (i % 64)) (get_or-set_same words at word 0 lt)
    ∙ says (i % 64) (omega arith)
    ∙ ltb-same (i % 64) (count - 64 * at) i count (λ h. omega (arith, h, here)) (λ h. omega (arith, h, here)))
    (λ other. ap (λ w. has_bit w (i % 64)) (get_or-set_other words at (i / 64) word 0 other) ∙ before i (omega (arith, below, other)))
    (cases_eq (i / 64) at)

-- no bit is set behind the last word
pub none-behind : (words : List ℕ) (i : ℕ) → length words ≤ i / 64 → is_marked words i ≡ false
none-behind words i past = ap (λ w. has_bit w (i % 64)) (get_or_past words (i / 64) 0 past) ∙ ap (λ x. eqb x 1) (bit_at-zero (i % 64))

pub marks-all : (from count long : ℕ) (words : List ℕ) → count ≤ 64 * long → length words ≤ long → ((i : ℕ) → i < 64 * long → is_marked words i ≡ ltb i count) → AreMarked (λ r. true) from count words
marks-all from count long words few whole says = record {
  each = λ i lt. says i (omega (arith, few, lt)) ∙ lt-ltb i count lt;
  none = λ i le. ⊎_elim
      (λ below. says i below ∙ le-ltb i count le)
      (λ past. none-behind words i (omega (arith, past, whole)))
      (cases_lt i (64 * long));
}

-- ---- the numbers from a place on

pub tail-read : {T : Type 0} (wide : T → ℤ) (numbers : List T) (k j : ℕ) → get_or (map wide (take (length numbers - k) (drop k numbers))) j (pos 0) ≡ get_or (map wide numbers) (k + j) (pos 0)
tail-read wide numbers k j =
    ap (λ xs. get_or (map wide xs) j (pos 0)) (take_all (length numbers - k) (drop k numbers) (let e = length-drop k numbers in omega (arith, e)))
    ∙ ap (λ xs. get_or xs j (pos 0)) (sym (drop-map wide k numbers))
    ∙ get_or-drop k (map wide numbers) j (pos 0)

pub tail-long : {T : Type 0} (numbers : List T) (k : ℕ) → length (take (length numbers - k) (drop k numbers)) ≡ length numbers - k
tail-long numbers k = ap length (take_all (length numbers - k) (drop k numbers) (let e = length-drop k numbers in omega (arith, e))) ∙ length-drop k numbers
