-- Single numbers by their cuts.
use Rattle.std.proofs.Common.{◌≡◌, ◌∙◌, ℕ, ℤ, pos, ◌+◌, ◌+ℤ◌, ◌<◌, Bool, true, false, cond, not, List, take, length, get_or, refl, sym, ap, arith, ◌≤◌}
use Rattle.std.proofs.lemmas.Int.{ints}
use Rattle.std.proofs.lemmas.List.{take_more}
use Rattle.std.specs.Ordering.{int_eq}
use Rattle.ssb_sets.specs.NumberSets.{said_by, turned_at}
use Rattle.ssb_sets.proofs.SetFacts.{said_by-not, said_by_push}

-- one cut more
passed-more : (first : Bool) (cuts : List ℤ) (k : ℕ) (n : ℤ) → k < length cuts → said_by first (take (k + 1) cuts) n ≡ turned_at n (said_by first (take k cuts) n) (get_or cuts k (pos 0))
passed-more first cuts k n lt = ap (λ cs. said_by first cs n) (take_more cuts k (pos 0) lt) ∙ said_by_push first (take k cuts) (get_or cuts k (pos 0)) n

eq-true : (a b : ℤ) → int_eq a b ≡ true → a ≡ b
eq-true a b e = grind (arith, ints)

-- two cuts side by side turn the answer of one number
pub pair-turns : (c n : ℤ) (said : Bool) → turned_at n (turned_at n said c) (c +ℤ pos 1) ≡ cond (int_eq c n) (not said) said
pair-turns c n said = grind (arith, ints)

-- two cuts side by side put one number more among the points
pub point-more : (cuts : List ℤ) (k : ℕ) (c d : ℤ) (old new : ℤ → Bool) → k + 2 ≤ length cuts → get_or cuts k (pos 0) ≡ c → get_or cuts (k + 1) (pos 0) ≡ d → d ≡ c +ℤ pos 1 → ((n : ℤ) → old n ≡ said_by false (take k cuts) n) → ((n : ℤ) → new n ≡ cond (int_eq c n) true (old n)) → old c ≡ false → (n : ℤ) → new n ≡ said_by false (take (k + 2) cuts) n
point-more cuts k c d old new long one two next before after none n =
    after n ∙ at (int_eq c n) (old n) (known n)
    ∙ sym (said ∙ (λ j. turned_at n (turned_at n (sym (before n) j) (one j)) ((two ∙ next) j)) ∙ pair-turns c n (old n))
  where
    said : said_by false (take (k + 2) cuts) n ≡ turned_at n (turned_at n (said_by false (take k cuts) n) (get_or cuts k (pos 0))) (get_or cuts (k + 1) (pos 0))
    said = ap (λ m. said_by false (take m cuts) n) (let e : k + 2 ≡ k + 1 + 1 = omega arith in e)
        ∙ passed-more false cuts (k + 1) n (omega (arith, long)) ∙ ap (λ b. turned_at n b (get_or cuts (k + 1) (pos 0))) (passed-more false cuts k n (omega (arith, long)))

    at : (same b : Bool) → (same ≡ true → b ≡ false) → cond same true b ≡ cond same (not b) b
    at true b h = ap not (sym (h refl))
    at false b h = refl

    known : (m : ℤ) → int_eq c m ≡ true → old m ≡ false
    known m is = ap old (sym (eq-true c m is)) ∙ none

-- what points say, by what is said of others
pub points-say : (first : Bool) (cuts : List ℤ) (n : ℤ) (has : Bool) → has ≡ said_by false cuts n → cond has (not first) first ≡ said_by first cuts n
points-say true cuts n has is = turn has ∙ ap not is ∙ sym (said_by-not false cuts n)
  where
    turn : (b : Bool) → cond b false true ≡ not b
    turn true = refl
    turn false = refl
points-say false cuts n has is = same has ∙ is
  where
    same : (b : Bool) → cond b true false ≡ b
    same true = refl
    same false = refl
