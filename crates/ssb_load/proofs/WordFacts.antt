-- Digits in the bytes of a word.
use Rattle.std.proofs.Common.{◌≡◌, ◌∙◌, ◌+◌, ◌-◌, ◌*◌, ◌/◌, ◌%◌, ◌<◌, ◌≤◌, ◌^◌, ◌++◌, ℕ, zero, suc, Bool, true, false, cond, List, [], ◌∷◌, length, length-append, take, drop, Option, None, Some, IfSome, refl, sym, ap, arith}
use Rattle.std.proofs.lemmas.List.{drop-drop, length-drop, length-replicate, length-take-le, take_all}
use Rattle.std.proofs.Math.Seq.{take-append_seam}
use Rattle.std.specs.Simd.Lanes.{number_l}
use Rattle.std.specs.Int.Count.{count_trailing_zeros}
use Rattle.std.specs.Str.Parse.{digits_value}
use Rattle.std.specs.Prelude.{bit_and, bit_or, bit_xor, replicate}
use Rattle.std.specs.Char.{is_ascii_digit}
use Rattle.std.specs.Str.{all_ascii_digits}
use Rattle.core.specs.Dec2flt.Digits.{IsEightBytes, IsEightDigits}
use Rattle.core.specs.Float.Numeral.{digits_len}
use Rattle.core.specs.Int.Digits.{AllBelowBase, number_from_digits}
use Rattle.core.proofs.dec2flt.Eight.{all_digits, bytes-drop, bytes_down, first_other, lanes_are, shifted_is, zeros_after}
use Rattle.core.proofs.slice.Flagged.{flags_from_ten}

-- the first four bytes of a word, and those behind them
pub split-four : (bs : List ℕ) → 4 ≤ length bs → number_l 256 (take 4 bs) + number_l 256 (drop 4 bs) * 4294967296 ≡ number_l 256 bs
split-four [] le = absurd (omega (arith, le))
split-four (a ∷ []) le = absurd (omega (arith, le))
split-four (a ∷ b ∷ []) le = absurd (omega (arith, le))
split-four (a ∷ b ∷ c ∷ []) le = absurd (omega (arith, le))
split-four (a ∷ b ∷ c ∷ d ∷ bs) le = omega arith

-- four bytes at most are below 2^32
pub small : (bs : List ℕ) → length bs ≤ 4 → AllBelowBase 256 bs → number_l 256 bs < 4294967296
small [] le h = omega arith
small (a ∷ []) le h = let x = h.0 in omega (arith, x)
small (a ∷ b ∷ []) le h = let x = h.0 in let y = h.1.0 in omega (arith, x, y)
small (a ∷ b ∷ c ∷ []) le h = let x = h.0 in let y = h.1.0 in let z = h.1.1.0 in omega (arith, x, y, z)
small (a ∷ b ∷ c ∷ d ∷ []) le h = let x = h.0 in let y = h.1.0 in let z = h.1.1.0 in let w = h.1.1.1.0 in omega (arith, x, y, z, w)
small (a ∷ b ∷ c ∷ d ∷ e ∷ bs) le h = absurd (omega (arith, le))

-- the first bytes of a word of bytes
bytes-take : (k : ℕ) (xs : List ℕ) → AllBelowBase 256 xs → AllBelowBase 256 (take k xs)
bytes-take zero xs h = tt
bytes-take (suc k) [] h = tt
bytes-take (suc k) (x ∷ xs) h = (h.0, bytes-take k xs h.1)

-- four to eight bytes: the first four, and of the last four what they have more
pub joined : (bs : List ℕ) (low last : ℕ) → 4 ≤ length bs → length bs ≤ 8 → AllBelowBase 256 bs → low ≡ number_l 256 (take 4 bs) → last ≡ number_l 256 (take 4 (drop (length bs - 4) bs))
    → (low + last / 2 ^ (8 * (8 - length bs)) * 4294967296 % 18446744073709551616 ≡ number_l 256 bs) × (low + last / 2 ^ (8 * (8 - length bs)) * 4294967296 % 18446744073709551616 < 18446744073709551616)
joined bs low last four eight fit low_is last_is =
    let n = length bs in
    let top = drop (n - 4) bs in
    let long = length-drop (n - 4) bs in
    let dropped : drop (8 - n) top ≡ drop 4 bs = drop-drop (8 - n) (n - 4) bs ∙ ap (λ k. drop k bs) {y = 4} (omega (arith, four, eight)) in
    let rest : last / 2 ^ (8 * (8 - n)) ≡ number_l 256 (drop 4 bs) =
    ap (λ x. x / 2 ^ (8 * (8 - n))) (last_is ∙ ap (number_l 256) (take_all 4 top (omega (arith, long, four)))) ∙ bytes_down top (8 - n) (bytes-drop (n - 4) bs fit) (omega (arith, four)) ∙ ap (number_l 256) dropped in
    let behind = length-drop 4 bs in
    let below = small (drop 4 bs) (omega (arith, behind, eight)) (bytes-drop 4 bs fit) in
    let first = length-take-le 4 bs four in
    let lower = small (take 4 bs) (omega (arith, first)) (bytes-take 4 bs fit) in
    let whole = split-four bs four in
    rw (low_is, rest) (omega (arith, below, whole), omega (arith, below, lower))

power : (k : ℕ) → k < 8 → 2 ^ (8 * k) ≡ 256 ^ k
power zero lt = refl
power (suc zero) lt = refl
power (suc (suc zero)) lt = refl
power (suc (suc (suc zero))) lt = refl
power (suc (suc (suc (suc zero)))) lt = refl
power (suc (suc (suc (suc (suc zero))))) lt = refl
power (suc (suc (suc (suc (suc (suc zero)))))) lt = refl
power (suc (suc (suc (suc (suc (suc (suc zero))))))) lt = refl
power (suc (suc (suc (suc (suc (suc (suc (suc k)))))))) lt = absurd (omega (arith, lt))

-- where a word's first flag of another byte than a digit stands, there are so many digits
pub counted : (xs : List ℕ) (word m count : ℕ) → IsEightBytes xs → word ≡ number_l 256 xs → m ≡ bit_and (bit_or (bit_and (bit_xor word 0x3030_3030_3030_3030) 0x7f7f_7f7f_7f7f_7f7f + 0x7676_7676_7676_7676) (bit_xor word 0x3030_3030_3030_3030)) 0x8080_8080_8080_8080
    → count_trailing_zeros 64 m / 8 ≡ count → digits_len xs ≡ count
unfolding count_trailing_zeros
counted xs word zero count eight is flags at =
    let none : count_trailing_zeros 64 0 / 8 ≡ 8 = refl in
    all_digits xs word eight is zero (λ byte bytes e. flags ∙ flags_from_ten (bit_xor word 0x3030_3030_3030_3030) byte bytes e) refl ∙ sym none ∙ at
counted xs word (suc m) count eight is flags at = (first_other xs word eight is (suc m) (λ byte bytes e. flags ∙ flags_from_ten (bit_xor word 0x3030_3030_3030_3030) byte bytes e) (omega arith)).0 ∙ at

-- moved up behind zeros they spell their number
pub shifted : (xs : List ℕ) (word count : ℕ) → IsEightBytes xs → word ≡ number_l 256 xs → 1 ≤ count → count ≤ 8 → digits_len xs ≡ count
    → (ds : List ℕ) × IsEightDigits ds × (bit_xor word 0x3030_3030_3030_3030 * 2 ^ (8 * (8 - count)) % 18446744073709551616 ≡ number_l 256 ds) × (number_from_digits 10 ds ≡ digits_value 10 (take count xs))
shifted xs word count eight is some few digits = shifted_is xs count _ eight (omega (arith, digits)) few (rw (power (8 - count) (omega (arith, some)), lanes_are xs word eight is) refl)

-- ---- fewer bytes than a word has

-- where digits go on to the end of some bytes at least, all of these are
pub all-front : (bs zs : List ℕ) → length bs ≤ digits_len (bs ++ zs) → all_ascii_digits bs ≡ true
all-front [] zs le = refl
all-front (b ∷ bs) zs le = by (all-front bs zs) (is_ascii_digit b) refl le
  where
    by : (length bs ≤ digits_len (bs ++ zs) → all_ascii_digits bs ≡ true) → (t : Bool) → is_ascii_digit b ≡ t → suc (length bs) ≤ cond t (1 + digits_len (bs ++ zs)) 0 → all_ascii_digits (b ∷ bs) ≡ true
    by rest true e h = rw e (rest (omega (arith, h)))
    by rest false e h = absurd (omega (arith, h))

some-map : {A : Type 0} (o : Option A) (P Q : A → Type 0) → ((a : A) → P a → Q a) → IfSome o P → IfSome o Q
some-map None P Q f h = tt
some-map (Some a) P Q f h = f a h

-- what a word tells of the bytes that it has, and zeros behind them
few : (bs : List ℕ) (word value : ℕ) → 4 ≤ length bs → length bs ≤ 8 → AllBelowBase 256 bs → word ≡ number_l 256 bs
    → ((xs : List ℕ) → IsEightBytes xs → word ≡ number_l 256 xs → (digits_len xs ≡ length bs) × (value ≡ digits_value 10 (take (length bs) xs)))
    → (all_ascii_digits bs ≡ true) × (value ≡ digits_value 10 bs)
few bs word value four eight fit is told =
    let zs = replicate (8 - length bs) 0 in
    let z = zeros_after bs (8 - length bs) fit in
    let more = length-append bs zs in
    let zeros = length-replicate {A = ℕ} (8 - length bs) 0 in
    let t = told (bs ++ zs) (omega (arith, more, zeros, eight), z.0) (is ∙ z.1) in
    let digits = t.0 in
    (all-front bs zs (omega (arith, digits)), t.1 ∙ ap (digits_value 10) (take-append_seam bs zs))

pub some-few : (bs : List ℕ) (word : ℕ) (found : Option ℕ) → 4 ≤ length bs → length bs ≤ 8 → AllBelowBase 256 bs → word ≡ number_l 256 bs
    → IfSome found (λ value. (xs : List ℕ) → IsEightBytes xs → word ≡ number_l 256 xs → (digits_len xs ≡ length bs) × (value ≡ digits_value 10 (take (length bs) xs)))
    → IfSome found (λ value. (all_ascii_digits bs ≡ true) × (value ≡ digits_value 10 bs))
some-few bs word found four eight fit is told = some-map found _ _ (λ value h. few bs word value four eight fit is h) told
