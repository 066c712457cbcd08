-- What cuts say.
use Rattle.std.proofs.Common.{◌≡◌, ◌∙◌, ℤ, ◌<ℤ◌, ◌≤ℤ◌, Bool, true, false, not, List, [], ◌∷◌, ◌++◌, int_le, refl, sym, ap, arith, cond}
use Rattle.std.proofs.lemmas.Int.{ints}
use Rattle.std.proofs.lemmas.List.Sums.{fold_push}
use Rattle.ssb_sets.specs.NumberSets.{said_by, turned_at}

pub not-not : (b : Bool) → not (not b) ≡ b
not-not true = refl
not-not false = refl

pub turned_below : (n : ℤ) (said : Bool) (cut : ℤ) → n <ℤ cut → turned_at n said cut ≡ said
turned_below n said cut lt = grind (arith, ints)

pub turned_from : (n : ℤ) (said : Bool) (cut : ℤ) → cut ≤ℤ n → turned_at n said cut ≡ not said
turned_from n said cut le = grind (arith, ints)

turned-not : (n : ℤ) (said : Bool) (cut : ℤ) → turned_at n (not said) cut ≡ not (turned_at n said cut)
turned-not n said cut = elim (int_le cut n) as (λ b. cond b (not (not said)) (not said) ≡ not (cond b (not said) said)) [ true ↦ refl | false ↦ refl ]

pub turned-turned : (n : ℤ) (said : Bool) (cut : ℤ) → turned_at n (turned_at n said cut) cut ≡ said
turned-turned n said cut = elim (int_le cut n) as (λ b. cond b (not (cond b (not said) said)) (cond b (not said) said) ≡ said) [ true ↦ not-not said | false ↦ refl ]

pub said_by-not : (first : Bool) (cuts : List ℤ) (n : ℤ) → said_by (not first) cuts n ≡ not (said_by first cuts n)
said_by-not first [] n = refl
said_by-not first (c ∷ cs) n = ap (λ b. said_by b cs n) (turned-not n first c) ∙ said_by-not (turned_at n first c) cs n

pub said_by_push : (first : Bool) (cuts : List ℤ) (c n : ℤ) → said_by first (cuts ++ c ∷ []) n ≡ turned_at n (said_by first cuts n) c
said_by_push first cuts c n = fold_push (turned_at n) first cuts c

pub said_by_pop : (first : Bool) (cuts before : List ℤ) (c n : ℤ) → before ≡ cuts ++ c ∷ [] → said_by first cuts n ≡ turned_at n (said_by first before n) c
said_by_pop first cuts before c n is = sym (turned-turned n (said_by first cuts n) c) ∙ ap (λ b. turned_at n b c) (sym (said_by_push first cuts c n) ∙ ap (λ cs. said_by first cs n) (sym is))
