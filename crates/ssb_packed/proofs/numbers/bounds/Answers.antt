use Rattle.std.proofs.Common.{◌≡◌, ◌≤ℤ◌, ◌<◌, ℤ, ℕ, All, int_cmp, length, get_or, of_z, pos, rules, take, to_z, w64, arith, refl, List, ◌+◌}
use Rattle.std.specs.Ordering.{ord_max, ord_min}
use Rattle.std.proofs.lemmas.Cmp.{int_ranked}
use Rattle.std.proofs.lemmas.List.{take_all}
use Rattle.std.proofs.lemmas.List.Elements.{All-more, All-weaker}
use Rattle.std.proofs.lemmas.Int.{ints}
use Rattle.ssb_packed.proofs.numbers.bounds.Goals as goal

min-under : (a b r : ℤ) → r ≡ ord_min int_cmp a b → (r ≤ℤ a) × (r ≤ℤ b)
min-under a b r e =
    let ranked = int_ranked b a (int_cmp b a) refl in
    grind (arith, ints)

max-over : (a b r : ℤ) → r ≡ ord_max int_cmp a b → (a ≤ℤ r) × (b ≤ℤ r)
max-over a b r e =
    let ranked = int_ranked b a (int_cmp b a) refl in
    grind (arith, ints)

-- a number is neither below the one nor above the other
abbrev Between : ℤ → ℤ → ℤ → Type 0
Between least greatest n = (least ≤ℤ n) × (n ≤ℤ greatest)

-- one more number lies between the lesser least and the greater greatest
between-more : (xs : List ℤ) (i : ℕ) (l g x r s : ℤ) → i < length xs → x ≡ get_or xs i (pos 0) → r ≡ ord_min int_cmp l x → s ≡ ord_max int_cmp g x → All (Between l g) (take i xs) → All (Between r s) (take (i + 1) xs)
between-more xs i l g x r s within at least greatest all =
    let under = min-under l x r least in
    let over = max-over g x s greatest in
    let kept = All-weaker (Between l g) (Between r s) (λ n b. (omega (arith, ints, b.0), omega (arith, ints, b.1))) (take i xs) all in
    All-more (Between r s) xs i (pos 0) within kept (rw (← at) (under.1, over.1))

pub loop-number-preserved : goal.loop-number-preserved
loop-number-preserved c =
    let x = get_or c.args.numbers.now c.loop-number.number-index (pos 0) in
    let a : to_z w64 (of_z w64 c.min-least.result) ≡ c.min-least.result = search rules in
    let b : to_z w64 (of_z w64 c.max-greatest.result) ≡ c.max-greatest.result = search rules in
    let e : to_z w64 (of_z w64 x) ≡ x = search rules in
    rw (a, b) (between-more c.args.numbers.now c.loop-number.number-index _ _ (to_z w64 (of_z w64 x)) c.min-least.result c.max-greatest.result c.loop-number-test.true e c.min-least.ensures c.max-greatest.ensures c.loop-number.invariant)

pub returns : goal.returns
returns c = rw (take_all c.loop-number.number-index c.args.numbers.now c.loop-number-test.false) at c.loop-number.invariant
