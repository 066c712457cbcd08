-- Bits of a word by vectors: the comparison of 64 numbers with one.
use Rattle.std.proofs.Common.{◌≡◌, ◌∙◌, ℕ, ℤ, ◌+◌, ◌-◌, ◌^◌, ◌%◌, ◌<◌, ◌≤◌, ◌<ℤ◌, ◌≤ℤ◌, ◌&&◌, Bool, true, false, cond, eqb, List, length, map, get_or, pos, replicate, refl, sym, ap, arith, to_z, of_z}
use Rattle.std.specs.Prelude.{int_le}
use Rattle.std.specs.Int.{int_max, int_min}
use lib.Signed.{lt_z}
use lib.Lanes.{zip2, chunk, mask_l, top}
use mir.Syntax.{Width, w128, w16, w32, w64, w8}
use mir.Val.{bits, hbits}
use lib.Bits.{bit_and}
use Rattle.std.proofs.lemmas.Int.{ints}
use Rattle.std.proofs.lemmas.List.{get_or-map, length-map}
use Rattle.std.proofs.lemmas.Simd.{bit_mask_l, get_or-chunk, get_or-replicate, get_or-zip2, length-chunk, length-zip2, mask_l-mod}
use Rattle.ssb_sets.specs.Marks.{has_bit, is_between}

one-if : (b : Bool) → eqb (cond b 1 0) 1 ≡ b
one-if true = refl
one-if false = refl

-- no more, as vectors of signed numbers have it
abbrev pub at_most : Width → ℕ → ℕ → Bool
at_most w a b = int_le (to_z w a) (to_z w b)

abbrev pub compared : Width → List ℕ → List ℕ → List ℕ
compared w xs ys = zip2 (λ a b. cond (at_most w a b) (2 ^ bits w - 1) 0) xs ys

-- the bits of the lanes at which two comparisons are true
abbrev pub bits_of : Width → List ℕ → List ℕ → ℕ
bits_of w xs ys = mask_l (map (top (hbits w)) (zip2 bit_and xs ys)) % 2 ^ 64

top-both : (w : Width) (a b : Bool) → top (hbits w) (bit_and (cond a (2 ^ bits w - 1) 0) (cond b (2 ^ bits w - 1) 0)) ≡ (a && b)
top-both w8 true true = refl
top-both w8 true false = refl
top-both w8 false true = refl
top-both w8 false false = refl
top-both w16 true true = refl
top-both w16 true false = refl
top-both w16 false true = refl
top-both w16 false false = refl
top-both w32 true true = refl
top-both w32 true false = refl
top-both w32 false true = refl
top-both w32 false false = refl
top-both w64 true true = refl
top-both w64 true false = refl
top-both w64 false true = refl
top-both w64 false false = refl
top-both w128 true true = refl
top-both w128 true false = refl
top-both w128 false true = refl
top-both w128 false false = refl

module _ (w : Width) (xs ys us vs : List ℕ) (i : ℕ) (x64 : length xs ≡ 64) (y64 : length ys ≡ 64) (u64 : length us ≡ 64) (v64 : length vs ≡ 64) (lt : i < 64) where
  lanes-compared : has_bit (bits_of w (compared w xs ys) (compared w us vs)) i ≡ (at_most w (get_or xs i 0) (get_or ys i 0) && at_most w (get_or us i 0) (get_or vs i 0))
  lanes-compared =
      let f = λ (a b : ℕ). cond (at_most w a b) (2 ^ bits w - 1) 0 in
      let one : length (compared w xs ys) ≡ 64 = length-zip2 f xs ys (x64 ∙ sym y64) ∙ x64 in
      let two : length (compared w us vs) ≡ 64 = length-zip2 f us vs (u64 ∙ sym v64) ∙ u64 in
      let both : length (zip2 bit_and (compared w xs ys) (compared w us vs)) ≡ 64 = length-zip2 bit_and (compared w xs ys) (compared w us vs) (one ∙ sym two) ∙ one in
      let tops = map (top (hbits w)) (zip2 bit_and (compared w xs ys) (compared w us vs)) in
      let long : length tops ≡ 64 = length-map (zip2 bit_and (compared w xs ys) (compared w us vs)) (top (hbits w)) ∙ both in
      ap (λ m. has_bit m i) (mask_l-mod tops 64 (omega (arith, long)))
      ∙ ap (λ x. eqb x 1) (bit_mask_l tops i)
      ∙ one-if (get_or tops i false)
      ∙ get_or-map (top (hbits w)) (zip2 bit_and (compared w xs ys) (compared w us vs)) i 0 false (omega (arith, both, lt))
      ∙ ap (top (hbits w)) (get_or-zip2 bit_and (compared w xs ys) (compared w us vs) i 0 0 0 (omega (arith, one, lt)) (omega (arith, two, lt)))
      ∙ (λ j. top (hbits w) (bit_and (get_or-zip2 f xs ys i 0 0 0 (omega (arith, x64, lt)) (omega (arith, y64, lt)) j) (get_or-zip2 f us vs i 0 0 0 (omega (arith, u64, lt)) (omega (arith, v64, lt)) j)))
      ∙ top-both w (at_most w (get_or xs i 0) (get_or ys i 0)) (at_most w (get_or us i 0) (get_or vs i 0))

-- the lanes that are loaded from a slice
abbrev pub lanes_of : Width → List ℤ → List ℕ
lanes_of w ns = map (of_z w) (chunk 0 64 ns)

module _ (w : Width) (ns : List ℤ) (many : 64 ≤ length ns) (i : ℕ) (lt : i < 64) where
  loaded : length (lanes_of w ns) ≡ 64
  loaded = length-map (chunk 0 64 ns) (of_z w) ∙ length-chunk 0 64 ns (omega (arith, many))

  lane : get_or (lanes_of w ns) i 0 ≡ of_z w (get_or ns i (pos 0))
  lane =
      get_or-map (of_z w) (chunk 0 64 ns) i (pos 0) 0 (let long = length-chunk 0 64 ns (omega (arith, many)) in omega (arith, long, lt))
      ∙ ap (of_z w) (get_or-chunk 0 64 ns i (pos 0) lt ∙ ap (λ k. get_or ns k (pos 0)) (let e : 0 + i ≡ i = omega arith in e))

  -- 64 numbers that are compared with a least and with a greatest
  pub lanes-between : (least greatest : ℕ) (low high : ℤ) → to_z w least ≡ low → to_z w greatest ≡ high → to_z w (of_z w (get_or ns i (pos 0))) ≡ get_or ns i (pos 0)
      → has_bit (bits_of w (compared w (replicate 64 least) (lanes_of w ns)) (compared w (lanes_of w ns) (replicate 64 greatest))) i ≡ is_between low high (get_or ns i (pos 0))
  lanes-between least greatest low high low-is high-is fits =
      let n = ap (to_z w) lane ∙ fits in
      lanes-compared w (replicate 64 least) (lanes_of w ns) (lanes_of w ns) (replicate 64 greatest) i refl loaded loaded refl lt
      ∙ (λ j. int_le ((ap (to_z w) (get_or-replicate 64 i least 0 lt) ∙ low-is) j) (n j) && int_le (n j) ((ap (to_z w) (get_or-replicate 64 i greatest 0 lt) ∙ high-is) j))

-- ---- a range that is cut to the bounds of the numbers

pub none-below : (least low high n : ℤ) → least ≤ℤ n → high <ℤ least → is_between low high n ≡ false
none-below least low high n within below = grind (arith, ints)

pub none-above : (greatest low high n : ℤ) → n ≤ℤ greatest → greatest <ℤ low → is_between low high n ≡ false
none-above greatest low high n within above = grind (arith, ints)

cut-low : (least low n : ℤ) → least ≤ℤ n → int_le (int_max low least) n ≡ int_le low n
cut-low least low n within = grind (arith, ints)

cut-high : (greatest high n : ℤ) → n ≤ℤ greatest → int_le n (int_min high greatest) ≡ int_le n high
cut-high greatest high n within = grind (arith, ints)

pub between-cut : (least greatest low high n m k : ℤ) → m ≡ int_max low least → k ≡ int_min high greatest → least ≤ℤ n → n ≤ℤ greatest → is_between m k n ≡ is_between low high n
between-cut least greatest low high n m k m-is k-is above below =
    (λ j. int_le (m-is j) n && int_le n (k-is j)) ∙ (λ j. cut-low least low n above j && cut-high greatest high n below j)

pub not-below : (a b : ℤ) → lt_z a b ≡ false → b ≤ℤ a
not-below a b not-less = grind (arith, ints)

pub max-below : (least greatest low m : ℤ) → m ≡ int_max low least → low ≤ℤ greatest → least ≤ℤ greatest → m ≤ℤ greatest
max-below least greatest low m m-is le order = grind (arith, ints)

pub min-above : (least greatest high k : ℤ) → k ≡ int_min high greatest → least ≤ℤ high → least ≤ℤ greatest → least ≤ℤ k
min-above least greatest high k k-is le order = grind (arith, ints)
