-- Where a command may stand: what is known of the bytes that were passed.
use Rattle.std.proofs.Common.{◌≡◌, ◌∙◌, ℕ, ◌+◌, ◌≤◌, ◌==◌, Bool, true, false, List, [], ◌∷◌, ◌++◌, length, take, refl, sym, ap, subst, arith, append_assoc, length-append, if◌then◌else◌}
use Rattle.std.proofs.lemmas.List.{append-nil, length-take, take-append-le, take_all}
use Rattle.ssb_tokens.specs.Statements.{statements_from, statements_of}
use Rattle.ssb_statements.specs.Cutting.{GoesOn, IsClear, Passes, cut, cut_from}
use Rattle.ssb_statements.specs.Parting.{HasNoCommand, IsBeforeCommand, begins_line}
use Rattle.ssb_statements.specs.declared.boundary.Boundary.{Boundary}
use Rattle.ssb_statements.specs.declared.boundary.Place.{Place}
use Rattle.ssb_statements.specs.declared.boundary.Place.TheVariants.{Plain, Dash, Literal, Comment}

-- so many statements have ended in these bytes, and the rest of them is at hand
pub record IsKnown (n : ℕ) (all : List ℕ) (c : Boundary) : Type 0 where
  pub few : n ≤ length (statements_of all)
  pub known : (more : List ℕ) → statements_of (all ++ more) ≡ take n (statements_of all) ++ cut c more

none-of : statements_of [] ≡ []
unfolding statements_from
none-of = refl

clear-cut : (c : Boundary) → IsClear c → (more : List ℕ) → cut c more ≡ statements_of more
clear-cut c k more = ap (λ p. cut_from p c.so_far.items more) k.place ∙ ap (λ b. statements_of-of b more) k.so_far
  where
    statements_of-of : List ℕ → List ℕ → List (List ℕ)
    statements_of-of so_far more = cut_from Plain so_far more

pub starts : (all : List ℕ) (c : Boundary) (n : ℕ) → all ≡ [] → n ≡ 0 → IsClear c → IsKnown n all c
starts all c n e z k = record {
  few = omega (arith, z);
  known = λ more. ap (λ b. statements_of (b ++ more)) e ∙ sym (clear-cut c k more) ∙ ap (λ m. take m (statements_of all) ++ cut c more) (sym z);
}

-- ---- one byte more

first-of : (n : ℕ) (xs ys : List (List ℕ)) → n ≤ length xs → take n (take n xs ++ ys) ≡ take n xs
first-of n xs ys le = let l : length (take n xs) ≡ n = omega (arith, length-take n xs) in
    take-append-le n (take n xs) ys (omega arith) ∙ take_all n (take n xs) (omega arith)

first-more : (n : ℕ) (xs : List (List ℕ)) (s : List ℕ) → n ≤ length xs → take (n + 1) (take n xs ++ s ∷ []) ≡ take n xs ++ s ∷ []
first-more n xs s le = take_all (n + 1) (take n xs ++ s ∷ []) (omega (arith, length-take n xs, length-append (take n xs) (s ∷ [])))

all-of : (n : ℕ) (all : List ℕ) (c : Boundary) → IsKnown n all c → statements_of all ≡ take n (statements_of all) ++ cut c []
all-of n all c k = ap statements_of (sym (append-nil all)) ∙ k.known []

goes : (n : ℕ) (all : List ℕ) (b : ℕ) (old new : Boundary) → IsKnown n all old → GoesOn old (b ∷ []) new → IsKnown n (all ++ b ∷ []) new
goes n all b old new k g =
    let told = take n (statements_of all) in
    let whole : (more : List ℕ) → statements_of ((all ++ b ∷ []) ++ more) ≡ told ++ cut new more =
    (λ more. ap statements_of (append_assoc all (b ∷ []) more) ∙ k.known (b ∷ more) ∙ ap (λ t. told ++ t) (g.same more)) in
    let now : statements_of (all ++ b ∷ []) ≡ told ++ cut new [] = ap statements_of (sym (append-nil (all ++ b ∷ []))) ∙ whole [] in
    let same : take n (statements_of (all ++ b ∷ [])) ≡ told = ap (take n) now ∙ first-of n (statements_of all) (cut new []) k.few in
    record {
      few = omega (arith, k.few, ap length now, length-append told (cut new []), length-take n (statements_of all));
      known = λ more. whole more ∙ ap (λ t. t ++ cut new more) (sym same);
    }

ends : (n m : ℕ) (all : List ℕ) (b : ℕ) (s : List ℕ) (old new : Boundary) → m ≡ n + 1 → IsKnown n all old → ((more : List ℕ) → cut old (b ∷ more) ≡ s ∷ statements_of more) → IsClear new → IsKnown m (all ++ b ∷ []) new
ends n m all b s old new e k next clear =
    let told = take n (statements_of all) in
    let whole : (more : List ℕ) → statements_of ((all ++ b ∷ []) ++ more) ≡ told ++ s ∷ statements_of more =
    (λ more. ap statements_of (append_assoc all (b ∷ []) more) ∙ k.known (b ∷ more) ∙ ap (λ t. told ++ t) (next more)) in
    let now : statements_of (all ++ b ∷ []) ≡ told ++ s ∷ [] = ap statements_of (sym (append-nil (all ++ b ∷ []))) ∙ whole [] ∙ ap (λ t. told ++ s ∷ t) none-of in
    let same : take m (statements_of (all ++ b ∷ [])) ≡ told ++ s ∷ [] = ap (λ k. take k (statements_of (all ++ b ∷ []))) e ∙ ap (take (n + 1)) now ∙ first-more n (statements_of all) s k.few in
    record {
      few = omega (arith, e, k.few, ap length now, length-append told (s ∷ []), length-take n (statements_of all));
      known = λ more. whole more ∙ sym (append_assoc told (s ∷ []) (statements_of more)) ∙ ap (λ t. (told ++ s ∷ []) ++ t) (sym (clear-cut new clear more)) ∙ ap (λ t. t ++ cut new more) (sym same);
    }

pub passes : (r : Bool) (n m : ℕ) (all now : List ℕ) (b : ℕ) (old new : Boundary) → IsKnown n all old → Passes r old b new → m ≡ n + (if r then 1 else 0) → now ≡ all ++ b ∷ [] → IsKnown m now new
passes true n m all now b old new k p e is = subst (λ a. IsKnown m a new) (sym is) (ends n m all b p.0 old new e k p.1 p.2)
passes false n m all now b old new k p e is = subst (λ a. IsKnown m a new) (sym is) (subst (λ i. IsKnown i (all ++ b ∷ []) new) (let z : n ≡ m = omega (arith, e) in z) (goes n all b old new k p))

pub line-first : (all : List ℕ) → all ≡ [] → true ≡ begins_line all
unfolding begins_line
line-first all is = sym (ap begins_line is)

pub line-more : (xs : List ℕ) (b : ℕ) → begins_line (xs ++ b ∷ []) ≡ (b == 10)
unfolding begins_line
line-more [] b = refl
line-more (x ∷ []) b = refl
line-more (x ∷ y ∷ ys) b = line-more (y ∷ ys) b

-- ---- no command among the bytes

data Split (all front back : List ℕ) (b : ℕ) : Type 0 where
  last : front ≡ all → b ≡ 46 → Split all front back b
  inner : (rest : List ℕ) → all ≡ front ++ 46 ∷ rest → Split all front back b

not-none : (xs ys : List ℕ) (y : ℕ) → [] ≡ xs ++ y ∷ ys → ⊥
not-none xs ys y e = absurd (omega (arith, ap length e, length-append xs (y ∷ ys)))

head-of : (a b : ℕ) (xs ys : List ℕ) → a ∷ xs ≡ b ∷ ys → a ≡ b
head-of a b xs ys e = cc

tail-of : (a b : ℕ) (xs ys : List ℕ) → a ∷ xs ≡ b ∷ ys → xs ≡ ys
tail-of a b xs ys e = cc

further : (a f : ℕ) (us fs back : List ℕ) (b : ℕ) → a ≡ f → Split us fs back b → Split (a ∷ us) (f ∷ fs) back b
further a f us fs back b e (last same is) = last (ap (λ h. h ∷ fs) (sym e) ∙ ap (λ t. a ∷ t) same) is
further a f us fs back b e (inner rest is) = inner rest (ap (λ t. a ∷ t) is ∙ ap (λ h. h ∷ (fs ++ 46 ∷ rest)) e)

split : (all front back : List ℕ) (b : ℕ) → all ++ b ∷ [] ≡ front ++ 46 ∷ back → Split all front back b
split [] [] back b e = last refl (head-of _ _ _ _ e)
split [] (f ∷ fs) back b e = absurd (not-none fs back 46 (tail-of _ _ _ _ e))
split (a ∷ us) [] back b e = inner us (ap (λ h. h ∷ us) (head-of _ _ _ _ e))
split (a ∷ us) (f ∷ fs) back b e = further a f us fs back b (head-of _ _ _ _ e) (split us fs back b (tail-of _ _ _ _ e))

no-more : (all front back : List ℕ) (b : ℕ) → HasNoCommand all → (b ≡ 46 → IsBeforeCommand all → ⊥) → Split all front back b → IsBeforeCommand front → ⊥
no-more all front back b none not (last same is) h = not is (subst IsBeforeCommand same h)
no-more all front back b none not (inner rest is) h = none front rest is h

pub none-more : (all now : List ℕ) (b : ℕ) → now ≡ all ++ b ∷ [] → HasNoCommand all → (b ≡ 46 → IsBeforeCommand all → ⊥) → HasNoCommand now
none-more all now b is none not front back e h = no-more all front back b none not (split all front back b (sym is ∙ e)) h

pub none-in : (all : List ℕ) → all ≡ [] → HasNoCommand all
none-in all is front back e h = not-none front back 46 (sym is ∙ e)

-- ---- where a command may stand

pub is-before : (n : ℕ) (all : List ℕ) (c : Boundary) → IsKnown n all c → begins_line all ≡ true → IsClear c → IsBeforeCommand all
is-before n all c k line clear =
    let told = take n (statements_of all) in
    let now : statements_of all ≡ told = all-of n all c k ∙ ap (λ t. told ++ t) (clear-cut c clear [] ∙ none-of) ∙ append-nil told in
    record { line = line; between = λ more. k.known more ∙ ap (λ t. told ++ t) (clear-cut c clear more) ∙ ap (λ t. t ++ statements_of more) (sym now) }

count-of : (p : Place) (xs more : List ℕ) (m n : ℕ) → cut_from p xs more ≡ cut_from p xs [] ++ statements_of more → length (cut_from p xs more) ≡ m → length (cut_from p xs [] ++ statements_of more) ≡ n → m ≡ n
count-of p xs more m n e l r = sym l ∙ ap length e ∙ r

literal-apart : (a b c : ℕ) → a ∷ b ∷ [] ≡ c ∷ [] → ⊥
literal-apart a b c e = absurd (omega (arith, ap length e))

first-same : (a b : List ℕ) (us vs : List (List ℕ)) → a ∷ us ≡ b ∷ vs → a ≡ b
first-same a b us vs e = cc

apart : (p : Place) (xs : List ℕ) → ((more : List ℕ) → cut_from p xs more ≡ cut_from p xs [] ++ statements_of more) → (p ≡ Plain) × (xs ≡ [])
unfolding statements_from
apart Plain [] h = (refl, refl)
apart Plain (x ∷ xs) h = absurd (omega (arith, count-of Plain (x ∷ xs) (46 ∷ []) 1 2 (h (46 ∷ [])) refl refl))
apart Dash [] h = absurd (omega (arith, count-of Dash [] (46 ∷ []) 1 2 (h (46 ∷ [])) refl refl))
apart Dash (x ∷ xs) h = absurd (omega (arith, count-of Dash (x ∷ xs) (46 ∷ []) 1 2 (h (46 ∷ [])) refl refl))
apart Literal [] h = absurd (literal-apart 59 120 120 (first-same _ _ [] [] (h (59 ∷ 120 ∷ []))))
apart Literal (x ∷ xs) h = absurd (omega (arith, count-of Literal (x ∷ xs) (46 ∷ []) 1 2 (h (46 ∷ [])) refl refl))
apart Comment [] h = absurd (omega (arith, count-of Comment [] (46 ∷ []) 0 1 (h (46 ∷ [])) refl refl))
apart Comment (x ∷ xs) h = absurd (omega (arith, count-of Comment (x ∷ xs) (46 ∷ []) 1 2 (h (46 ∷ [])) refl refl))

drop-front : (xs ys zs : List (List ℕ)) → xs ++ ys ≡ xs ++ zs → ys ≡ zs
drop-front [] ys zs e = e
drop-front (x ∷ xs) ys zs e = drop-front xs ys zs (rest-of _ _ _ _ e)
  where
    rest-of : (a b : List ℕ) (us vs : List (List ℕ)) → a ∷ us ≡ b ∷ vs → us ≡ vs
    rest-of a b us vs e = cc

pub is-clear : (n : ℕ) (all : List ℕ) (c : Boundary) → IsKnown n all c → IsBeforeCommand all → IsClear c
is-clear n all c k h =
    let told = take n (statements_of all) in
    let same : (more : List ℕ) → cut c more ≡ cut c [] ++ statements_of more =
    (λ more. drop-front told (cut c more) (cut c [] ++ statements_of more)
    (sym (k.known more) ∙ h.between more ∙ ap (λ t. t ++ statements_of more) (all-of n all c k) ∙ append_assoc told (cut c []) (statements_of more))) in
    let both = apart c.place c.so_far.items same in
    record { place = both.0; so_far = both.1 }
