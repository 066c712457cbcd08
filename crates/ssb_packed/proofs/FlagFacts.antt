-- Flags in bits: one that is set or cleared, and a list with one more or one less.
use Rattle.std.proofs.Common.{◌≡◌, ◌≢◌, ◌∙◌, ◌<◌, ◌≤◌, ◌+◌, ◌/◌, ◌%◌, ◌*◌, ◌++◌, ◌∷◌, [], ◌↔◌, ℕ, suc, zero, Bool, true, false, List, Some, length, map, set, take, get_or, if◌then◌else◌, nat_eq, ltb, inl, inr, ⊎_elim, refl, sym, ap, arith, true≢false}
use Rattle.std.specs.List.{range_with_len}
use Rattle.std.specs.Int.{bit_at}
use Rattle.std.proofs.lemmas.Bool.{cases_Bool, cases_eq, eq-eqb, ltb-false, ltb-true, ne_eqb}
use Rattle.std.proofs.lemmas.Option.{same_Some, slice_get_within}
use Rattle.std.proofs.lemmas.Grind.{get_or-set_at}
use Rattle.std.proofs.lemmas.List.{get_or-set_other, length-map}
use Rattle.std.proofs.Math.Seq.{take-append_seam}
use Rattle.std.proofs.lemmas.Nat.{div-add-mod'}
use Rattle.std.proofs.lemmas.Nat.Bits.{bit_at-zero}
use Rattle.std.specs.Prelude.{replicate, slice_get}
use Rattle.std.proofs.lemmas.List.FromFn.{length-range_with_len}
use Rattle.ssb_packed.specs.Lent.{flag_at}

-- a word with one flag changed
module _ (words : List ℕ) (p v : ℕ) (b : Bool) (within : p / 64 < length words) (here : nat_eq (bit_at v (p % 64)) 1 ≡ b)
    (others : (k : ℕ) → k < 64 → k ≢ p % 64 → bit_at v k ≡ bit_at (get_or words (p / 64) 0) k) where
  after : List ℕ
  after = set words (p / 64) v

  at-word : (i : ℕ) → i / 64 ≡ p / 64 → get_or (set words (p / 64) v) (i / 64) 0 ≡ v
  at-word i same = get_or-set_at words (p / 64) (i / 64) v 0 same within

  pub one-changed : (i : ℕ) → flag_at (set words (p / 64) v) i ≡ (if nat_eq i p then b else flag_at words i)
  one-changed i = elim (cases_eq i p) [
    | inl same ↦ rw (eq-eqb i p same) (ap (λ w. nat_eq (bit_at w (i % 64)) 1) (at-word i (ap (λ n. n / 64) same)) ∙ ap (λ n. nat_eq (bit_at v (n % 64)) 1) same ∙ here)
    | inr apart ↦ rw (ne_eqb i p apart) (elim (cases_eq (i / 64) (p / 64)) [
      | inl same ↦
          let k : i % 64 ≢ p % 64 = λ e. apart (sym (div-add-mod' i 64) ∙ ap (λ n. n * 64 + i % 64) same ∙ ap (λ n. p / 64 * 64 + n) e ∙ div-add-mod' p 64) in
          ap (λ w. nat_eq (bit_at w (i % 64)) 1) (at-word i same) ∙ ap (λ x. nat_eq x 1) (others (i % 64) (omega arith) k) ∙ ap (λ n. nat_eq (bit_at (get_or words n 0) (i % 64)) 1) (sym same)
      | inr other ↦ ap (λ w. nat_eq (bit_at w (i % 64)) 1) (get_or-set_other words (p / 64) (i / 64) v 0 other)
    ])
  ]

-- a list that has no word has no flag
pub no-flag : (i : ℕ) → flag_at [] i ≡ false
no-flag i = ap (λ x. nat_eq x 1) (bit_at-zero (i % 64))

-- words of no flag behind the others change none
pub more-words : (words : List ℕ) (n i : ℕ) → flag_at (words ++ replicate n 0) i ≡ flag_at words i
more-words words n i = ap (λ w. nat_eq (bit_at w (i % 64)) 1) (get_or-append-default words n (i / 64))
  where
    nothing : (n i : ℕ) → get_or (replicate n zero) i zero ≡ zero
    nothing zero i = refl
    nothing (suc n) zero = refl
    nothing (suc n) (suc i) = nothing n i

    get_or-append-default : (xs : List ℕ) (n i : ℕ) → get_or (xs ++ replicate n zero) i zero ≡ get_or xs i zero
    get_or-append-default [] n i = nothing n i
    get_or-append-default (x ∷ xs) n zero = refl
    get_or-append-default (x ∷ xs) n (suc i) = get_or-append-default xs n i

-- ---- the list of so many flags

pub length-flags : (words : List ℕ) (len : ℕ) → length (map (flag_at words) (range_with_len 0 len)) ≡ len
length-flags words len = length-map (range_with_len 0 len) (flag_at words) ∙ length-range_with_len 0 len

pub flag-in : (words : List ℕ) (len i : ℕ) → i < len → slice_get (map (flag_at words) (range_with_len 0 len)) i ≡ Some (flag_at words i)
flag-in words len i lt = let e : 0 + i ≡ i = omega arith in from words 0 len i lt ∙ ap (λ k. Some (flag_at words k)) e
  where
    from : (words : List ℕ) (a n i : ℕ) → i < n → slice_get (map (flag_at words) (range_with_len a n)) i ≡ Some (flag_at words (a + i))
    from words a zero i lt = absurd (omega arith)
    from words a (suc n) zero lt = let e : a ≡ a + 0 = omega arith in ap (λ k. Some (flag_at words k)) e
    from words a (suc n) (suc i) lt = let e : a + 1 + i ≡ a + suc i = omega arith in from words (a + 1) n i (omega arith) ∙ ap (λ k. Some (flag_at words k)) e

-- ---- one more and one less

-- the flag behind the last is b then, and no other has changed
abbrev pub Writes : List ℕ → List ℕ → ℕ → Bool → Type 0
Writes words after p b = (i : ℕ) → flag_at after i ≡ (if nat_eq i p then b else flag_at words i)

same-below : (words after : List ℕ) (p : ℕ) (b : Bool) → Writes words after p b → (i : ℕ) → i < p → flag_at after i ≡ flag_at words i
same-below words after p b w i lt = w i ∙ ap (λ t. if t then b else flag_at words i) (ne_eqb i p (λ e. absurd (omega (arith, e, lt))))

pub push-flag : (words after : List ℕ) (len : ℕ) (b : Bool) → Writes words after len b → map (flag_at after) (range_with_len 0 (len + 1)) ≡ map (flag_at words) (range_with_len 0 len) ++ b ∷ []
push-flag words after len b w = let e : len + 1 ≡ suc len = omega arith in ap (λ n. map (flag_at after) (range_with_len 0 n)) e ∙ from 0 len (omega arith)
  where
    from : (a n : ℕ) → a + n ≡ len → map (flag_at after) (range_with_len a (suc n)) ≡ map (flag_at words) (range_with_len a n) ++ b ∷ []
    from a zero e = let at : a ≡ len = omega (arith, e) in ap (λ x. x ∷ []) (w a ∙ ap (λ t. if t then b else flag_at words a) (eq-eqb a len at))
    from a (suc n) e = rw (same-below words after len b w a (omega (arith, e))) (ap (λ xs. flag_at words a ∷ xs) (from (a + 1) n (omega (arith, e))))

pub clear-behind : (words after : List ℕ) (len : ℕ) (b : Bool) → Writes words after len b → ((i : ℕ) → len ≤ i → flag_at words i ≡ false) → (i : ℕ) → len + 1 ≤ i → flag_at after i ≡ false
clear-behind words after len b w clear i behind = w i ∙ ap (λ t. if t then b else flag_at words i) (ne_eqb i len (λ e. absurd (omega (arith, e, behind)))) ∙ clear i (omega (arith, behind))

-- a list whose next flag is not set has it already
pub unset : (words : List ℕ) (len : ℕ) → flag_at words len ≡ false → Writes words words len false
unset words len clear i = elim (cases_eq i len) [
  | inl same ↦ rw (eq-eqb i len same) (ap (flag_at words) same ∙ clear)
  | inr apart ↦ rw (ne_eqb i len apart) refl
]

-- the words with one flag less
self-writes : (words : List ℕ) (n : ℕ) → Writes words words n (flag_at words n)
self-writes words n i = elim (cases_eq i n) [
  | inl same ↦ rw (eq-eqb i n same) (ap (flag_at words) same)
  | inr apart ↦ rw (ne_eqb i n apart) refl
]

same-front : (words after : List ℕ) (a n : ℕ) → ((i : ℕ) → i < a + n → flag_at after i ≡ flag_at words i) → map (flag_at after) (range_with_len a n) ≡ map (flag_at words) (range_with_len a n)
same-front words after a zero same = refl
same-front words after a (suc n) same = rw (same a (omega arith)) (ap (λ xs. flag_at words a ∷ xs) (same-front words after (a + 1) n (λ i lt. same i (omega (arith, lt)))))

pub pop-flag : (words after : List ℕ) (n : ℕ) (b : Bool) → Writes words after n b → map (flag_at after) (range_with_len 0 n) ≡ take n (map (flag_at words) (range_with_len 0 (n + 1)))
pop-flag words after n b w =
    let front = map (flag_at words) (range_with_len 0 n) in
    let long : length front ≡ n = length-flags words n in
    same-front words after 0 n (λ i lt. same-below words after n b w i (omega (arith, lt)))
    ∙ sym (take-append_seam front (flag_at words n ∷ [])) ∙ ap (λ k. take k (front ++ flag_at words n ∷ [])) long ∙ ap (take n) (sym (push-flag words words n (flag_at words n) (self-writes words n)))

pub clear-popped : (words after : List ℕ) (n : ℕ) → Writes words after n false → ((i : ℕ) → n + 1 ≤ i → flag_at words i ≡ false) → (i : ℕ) → n ≤ i → flag_at after i ≡ false
clear-popped words after n w clear i from = elim (cases_eq i n) [
  | inl same ↦ w i ∙ ap (λ t. if t then false else flag_at words i) (eq-eqb i n same)
  | inr apart ↦ w i ∙ ap (λ t. if t then false else flag_at words i) (ne_eqb i n apart) ∙ clear i (omega (arith, from, apart))
]

-- ---- flags that are not set

module _ (words : List ℕ) where
  unset-from : (a n : ℕ) → ((i : ℕ) → a ≤ i → flag_at words i ≡ false) → map (flag_at words) (range_with_len a n) ≡ replicate n false
  unset-from a zero clear = refl
  unset-from a (suc n) clear = rw (clear a (omega arith)) (ap (λ bs. false ∷ bs) (unset-from (a + 1) n (λ i from. clear i (omega (arith, from)))))

  split-flags : (a m n : ℕ) → map (flag_at words) (range_with_len a (m + n)) ≡ map (flag_at words) (range_with_len a m) ++ map (flag_at words) (range_with_len (a + m) n)
  split-flags a zero n =
      let e : zero + n ≡ n = omega arith in
      let same : a ≡ a + zero = omega arith in
      ap (λ k. map (flag_at words) (range_with_len a k)) e ∙ ap (λ k. map (flag_at words) (range_with_len k n)) same
  split-flags a (suc m) n =
      let e : suc m + n ≡ suc (m + n) = omega arith in
      let same : a + 1 + m ≡ a + suc m = omega arith in
      ap (λ k. map (flag_at words) (range_with_len a k)) e ∙ ap (λ bs. flag_at words a ∷ bs) (split-flags (a + 1) m n ∙ ap (λ k. map (flag_at words) (range_with_len (a + 1) m) ++ map (flag_at words) (range_with_len k n)) same)

-- a list that gets flags behind its words has them unset
pub skip-flags : (words : List ℕ) (len n : ℕ) → ((i : ℕ) → len ≤ i → flag_at words i ≡ false) → map (flag_at words) (range_with_len 0 (len + n)) ≡ map (flag_at words) (range_with_len 0 len) ++ replicate n false
skip-flags words len n clear = split-flags words 0 len n ∙ ap (λ bs. map (flag_at words) (range_with_len 0 len) ++ bs) (unset-from words (0 + len) n (λ i from. clear i (omega (arith, from))))

-- and without words all are
pub all-unset : (words : List ℕ) (len : ℕ) → words ≡ [] → map (flag_at words) (range_with_len 0 len) ≡ replicate len false
all-unset words len none = unset-from words 0 len (λ i from. ap (λ ws. flag_at ws i) none ∙ no-flag i)

-- the flags that are set in the words of a list of flags are those of the list
pub words-tell : (words : List ℕ) (len : ℕ) → ((i : ℕ) → len ≤ i → flag_at words i ≡ false) → (i : ℕ) → (flag_at words i ≡ true) ↔ (slice_get (map (flag_at words) (range_with_len 0 len)) i ≡ Some true)
words-tell words len clear i = (
  λ set. ⊎_elim
      (λ lt. flag-in words len i (ltb-true i len lt) ∙ ap Some set)
      (λ past. absurd (true≢false (sym set ∙ clear i (ltb-false i len past))))
      (cases_Bool (ltb i len)),
  λ at. let lt = rw (length-flags words len) at (slice_get_within _ i true at) in same_Some _ _ (sym (flag-in words len i lt) ∙ at),
)
