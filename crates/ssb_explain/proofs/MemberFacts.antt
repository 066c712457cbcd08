-- The codes that a set has, one more at a time, and the first of some values.
use Rattle.std.proofs.Common.{◌≡◌, ◌∙◌, ◌++◌, ◌∷◌, ◌+◌, ◌-◌, ◌<◌, [], ℕ, List, pos, true, false, cond, filter, length, map, min, take, sym, ap, ap₂, subst, arith}
use Rattle.std.specs.List.{All, range_with_len}
use Rattle.std.proofs.lemmas.List.{append-nil, map-id, take_min}
use Rattle.std.proofs.lemmas.List.Elements.{All-filter, filter-append}
use Rattle.std.proofs.lemmas.List.FromFn.{get_or-range_with_len, length-range_with_len, map-range_with_len_more}
use Rattle.ssb_sets.specs.NumberSets.{has}
use Rattle.ssb_sets.specs.declared.set.NumberSet.{NumberSet}
use Rattle.ssb_explain.specs.Members.{codes_in, shown, together}

range-more : (n : ℕ) → range_with_len 0 (n + 1) ≡ range_with_len 0 n ++ n ∷ []
range-more n = sym (map-id (range_with_len 0 (n + 1))) ∙ map-range_with_len_more (λ k. k) 0 n n (omega arith) ∙ ap (λ xs. xs ++ n ∷ []) (map-id (range_with_len 0 n))

code-more : (s : NumberSet) (n : ℕ) → codes_in s (n + 1) ≡ codes_in s n ++ cond (has s (pos n)) (n ∷ []) []
code-more s n = ap (filter (λ code. has s (pos code))) (range-more n) ∙ filter-append (λ code. has s (pos code)) (range_with_len 0 n) (n ∷ [])

pub code-there : (s : NumberSet) (n : ℕ) → has s (pos n) ≡ true → codes_in s (n + 1) ≡ codes_in s n ++ n ∷ []
code-there s n is = code-more s n ∙ ap (λ b. codes_in s n ++ cond b (n ∷ []) []) is

pub code-missing : (s : NumberSet) (n : ℕ) → has s (pos n) ≡ false → codes_in s (n + 1) ≡ codes_in s n
code-missing s n is = code-more s n ∙ ap (λ b. codes_in s n ++ cond b (n ∷ []) []) is ∙ append-nil (codes_in s n)

pub codes-below : (s : NumberSet) (n : ℕ) → All (λ code. code < n) (codes_in s n)
codes-below s n = All-filter (λ code. has s (pos code)) (λ code. code < n) (range_with_len 0 n) (λ k d lt.
    let below : k < n = omega (arith, lt, length-range_with_len 0 n) in
    let there : 0 + k < n = omega (arith, below) in
    subst (λ code. code < n) (sym (get_or-range_with_len 0 n k d below)) there)

pub shown-first : {V : Type 0} (text : V → List ℕ) (vs : List V) (count all : ℕ) → all ≡ length vs → count ≡ min all 8 → together (map text (take count vs)) (all - count) ≡ shown text vs
shown-first text vs count all all-is count-is =
    let first : count ≡ min 8 (length vs) = omega (arith, all-is, count-is) in
    let more : all - count ≡ length vs - 8 = omega (arith, all-is, count-is) in
    ap₂ (λ n m. together (map text (take n vs)) m) first more ∙ ap (λ ts. together (map text ts) (length vs - 8)) (take_min 8 vs)
