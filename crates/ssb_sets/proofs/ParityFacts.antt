-- What cuts say, by how many are passed.
use Rattle.std.proofs.Common.{◌≡◌, ◌∙◌, ⊎_elim, ℕ, ℤ, pos, zero, suc, ◌%◌, ◌<◌, ◌≤◌, ◌<ℤ◌, ◌≤ℤ◌, Bool, true, false, not, List, [], ◌∷◌, length, get_or, eqb, int_le, refl, sym, ap, arith}
use mathlib.Core.Bool.{beq}
use Rattle.std.specs.List.Sorted.{IsPartitionPoint, IsPartitionedBy}
use Rattle.std.proofs.lemmas.Bool.{cases_lt}
use Rattle.std.proofs.lemmas.Int.{ints}
use Rattle.std.proofs.lemmas.Option.{same_Some, slice_get-get_or}
use Rattle.ssb_sets.specs.NumberSets.{said_by}
use Rattle.ssb_sets.specs.Orders.{ArePassed, IsOrdered}
use Rattle.ssb_sets.proofs.SetFacts.{turned_below, turned_from}

abbrev pub odd : ℕ → Bool
odd n = eqb (n % 2) 1

odd-suc : (n : ℕ) → odd (suc n) ≡ not (odd n)
odd-suc n = grind arith

turns : (x f : Bool) → not (beq x (not f)) ≡ not (beq (not x) f)
turns true true = refl
turns true false = refl
turns false true = refl
turns false false = refl

even : (f : Bool) → f ≡ not (beq false f)
even true = refl
even false = refl

pub said_by-passed : (first : Bool) (cuts : List ℤ) (p : ℕ) (n : ℤ) → p ≤ length cuts → ((k : ℕ) → k < p → get_or cuts k (pos 0) ≤ℤ n) → ((k : ℕ) → p ≤ k → k < length cuts → n <ℤ get_or cuts k (pos 0)) → said_by first cuts n ≡ not (beq (odd p) first)
said_by-passed first [] zero n within passed ahead = even first
said_by-passed first [] (suc p) n within passed ahead = absurd (omega (arith, within))
said_by-passed first (c ∷ cs) zero n within passed ahead =
    ap (λ b. said_by b cs n) (turned_below n first c (ahead 0 (omega arith) (omega arith)))
    ∙ said_by-passed first cs zero n (omega arith) (λ k lt. absurd (omega (arith, lt))) (λ k above lt. ahead (suc k) (omega arith) (omega (arith, lt)))
said_by-passed first (c ∷ cs) (suc p) n within passed ahead =
    ap (λ b. said_by b cs n) (turned_from n first c (passed 0 (omega arith)))
    ∙ said_by-passed (not first) cs p n (omega (arith, within)) (λ k lt. passed (suc k) (omega (arith, lt))) (λ k above lt. ahead (suc k) (omega (arith, above)) (omega (arith, lt)))
    ∙ turns (odd p) first ∙ ap (λ b. not (beq b first)) (sym (odd-suc p))

le-true : (a b : ℤ) → int_le a b ≡ true → a ≤ℤ b
le-true a b e = grind (arith, ints)

le-false : (a b : ℤ) → int_le a b ≡ false → b <ℤ a
le-false a b e = grind (arith, ints)

true-le : (a b : ℤ) → a ≤ℤ b → int_le a b ≡ true
true-le a b le = grind (arith, ints)

-- an element that is there does not depend on what stands for those past the end
pub read-any : {X : Type 0} (xs : List X) (i : ℕ) (d e : X) → i < length xs → get_or xs i d ≡ get_or xs i e
read-any xs i d e lt = same_Some (get_or xs i d) (get_or xs i e) (sym (slice_get-get_or xs i d lt) ∙ slice_get-get_or xs i e lt)

pub in-parts : (cuts : List ℤ) (n : ℤ) → IsOrdered cuts → IsPartitionedBy (λ c. int_le c n) cuts
in-parts cuts n ordered i j d le long passes = ⊎_elim
    (λ lt. let o = ordered i j lt long in let at = read-any cuts i d (pos 0) (omega (arith, le, long)) in let to = read-any cuts j d (pos 0) long in let h = le-true (get_or cuts j d) n passes in true-le (get_or cuts i d) n (omega (arith, ints, o, at, to, h)))
    (λ ge. let same : i ≡ j = omega (arith, ge, le) in rw same passes)
    (cases_lt i j)

pub by-parts : (cuts : List ℤ) (p : ℕ) (n : ℤ) → p ≤ length cuts → IsPartitionPoint (λ c. int_le c n ≡ true) (λ c. int_le c n ≡ false) cuts p → ArePassed cuts n p
by-parts cuts p n within point = record {
  within = within;
  passed = λ k lt. le-true (get_or cuts k (pos 0)) n (point.0 k (pos 0) (omega arith) lt);
  ahead = λ k above lt. le-false (get_or cuts k (pos 0)) n (point.1 k (pos 0) above lt);
}
