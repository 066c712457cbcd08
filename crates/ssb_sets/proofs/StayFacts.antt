-- Where cuts say the same of two numbers.
use Rattle.std.proofs.Common.{◌≡◌, ◌∙◌, ⊎_elim, ℕ, ℤ, pos, suc, ◌-◌, ◌<◌, ◌≤◌, ◌<ℤ◌, ◌≤ℤ◌, Bool, true, false, List, [], ◌∷◌, length, get_or, int_le, int_lt, cond, not, refl, ap, arith}
use Rattle.std.proofs.lemmas.Bool.{cases_lt}
use Rattle.std.proofs.lemmas.Int.{ints}
use Rattle.ssb_sets.specs.NumberSets.{has, said_by, turned_at}
use Rattle.ssb_sets.specs.Orders.{IsOrdered}
use Rattle.ssb_sets.specs.declared.set.NumberSet.{NumberSet}

-- each cut lies at or below both, or above both
said_by-same : (first : Bool) (cuts : List ℤ) (m n : ℤ) → ((k : ℕ) → k < length cuts → int_le (get_or cuts k (pos 0)) m ≡ int_le (get_or cuts k (pos 0)) n) → said_by first cuts m ≡ said_by first cuts n
said_by-same first [] m n same = refl
said_by-same first (c ∷ cs) m n same =
    ap (λ b. said_by b cs m) (turned-same (int_le c m) (int_le c n) (same 0 (omega arith))) ∙ said_by-same (turned_at n first c) cs m n (λ k lt. same (suc k) (omega (arith, lt)))
  where
    turned-same : (a b : Bool) → a ≡ b → cond a (not first) first ≡ cond b (not first) first
    turned-same a b e = ap (λ x. cond x (not first) first) e

both-above : (c m n : ℤ) → c ≤ℤ m → c ≤ℤ n → int_le c m ≡ int_le c n
both-above c m n a b = grind (arith, ints)

both-below : (c m n : ℤ) → m <ℤ c → n <ℤ c → int_le c m ≡ int_le c n
both-below c m n a b = grind (arith, ints)

-- the cuts below the place i are passed, and the others are ahead of both
pub stays : (first : Bool) (cuts : List ℤ) (i : ℕ) (from n : ℤ) → IsOrdered cuts → ((k : ℕ) → k < i → get_or cuts k (pos 0) ≤ℤ from) → (i < length cuts → n <ℤ get_or cuts i (pos 0)) → from ≤ℤ n → said_by first cuts n ≡ said_by first cuts from
stays first cuts i from n ordered passed ahead le = said_by-same first cuts n from (λ k lt. ⊎_elim
    (λ below. let at = passed k below in both-above (get_or cuts k (pos 0)) n from (omega (arith, ints, at, le)) at)
    (λ past. let over = next k past lt in both-below (get_or cuts k (pos 0)) n from over (omega (arith, ints, over, le)))
    (cases_lt k i))
  where
    next : (k : ℕ) → i ≤ k → k < length cuts → n <ℤ get_or cuts k (pos 0)
    next k past long = ⊎_elim
        (λ lt. let o = ordered i k lt long in let a = ahead (omega (arith, lt, long)) in omega (arith, ints, o, a))
        (λ ge. let same : i ≡ k = omega (arith, ge, past) in rw (← same) (ahead (omega (arith, same, long))))
        (cases_lt i k)

-- the same of a set, whose cuts were read
pub stays-at : (s : NumberSet) (items : List ℤ) (i : ℕ) (from n : ℤ) → items ≡ s.cuts.items → ((k : ℕ) → k < i → get_or items k (pos 0) ≤ℤ from) → (i < length items → n <ℤ get_or items i (pos 0)) → from ≤ℤ n → has s n ≡ has s from
stays-at s items i from n is passed ahead le =
    stays s.first s.cuts.items i from n s.ordered (λ k lt. rw (← is) (passed k lt)) (λ lt. rw (← is) (ahead (rw is lt))) le

-- from the last cut on
pub last-stays : (s : NumberSet) (items : List ℤ) (n : ℤ) → items ≡ s.cuts.items → (length items ≡ 0 → ⊥) → get_or items (length items - 1) (pos 0) ≤ℤ n → has s n ≡ has s (get_or items (length items - 1) (pos 0))
last-stays s items n is some le = stays-at s items (length items) (get_or items (length items - 1) (pos 0)) n is passed (λ lt. absurd (omega (arith, lt))) le
  where
    ordered : IsOrdered items
    ordered = rw is s.ordered

    passed : (k : ℕ) → k < length items → get_or items k (pos 0) ≤ℤ get_or items (length items - 1) (pos 0)
    passed k lt = ⊎_elim
        (λ before. ordered k (length items - 1) before (omega (arith, lt)))
        (λ at. let same : k ≡ length items - 1 = omega (arith, at, lt) in let e = ap (λ j. get_or items j (pos 0)) same in omega (arith, ints, e))
        (cases_lt k (length items - 1))

pub less-true : (a b : ℤ) → int_lt a b ≡ true → a <ℤ b
less-true a b e = grind (arith, ints)

pub less-false : (a b : ℤ) → int_lt a b ≡ false → b ≤ℤ a
less-false a b e = grind (arith, ints)
