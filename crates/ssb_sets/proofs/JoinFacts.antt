-- Answers joined into one, and by halves.
use Rattle.std.proofs.Common.{◌≡◌, ◌∙◌, ◌++◌, Bool, true, false, List, [], ◌∷◌, map, ◌||◌, refl, sym, ap}
use Rattle.std.proofs.lemmas.List.{map-append}
use Rattle.std.proofs.lemmas.List.Folds.{list_any-append}
use Rattle.std.specs.List.{list_any}
use Rattle.ssb_sets.specs.Joins.{all_joined, joined, unit}
use Rattle.ssb_sets.specs.declared.join.Join.{Join}
use Rattle.ssb_sets.specs.declared.join.Join.TheVariants.{Or, And}

joined-assoc : (by : Join) (a b c : Bool) → joined by a (joined by b c) ≡ joined by (joined by a b) c
joined-assoc Or true b c = refl
joined-assoc Or false b c = refl
joined-assoc And true b c = refl
joined-assoc And false b c = refl

joined-unit : (by : Join) (b : Bool) → joined by (unit by) b ≡ b
joined-unit Or b = refl
joined-unit And b = refl

all_joined-append : (by : Join) (xs ys : List Bool) → all_joined by (xs ++ ys) ≡ joined by (all_joined by xs) (all_joined by ys)
all_joined-append by [] ys = sym (joined-unit by (all_joined by ys))
all_joined-append by (b ∷ bs) ys = ap (joined by b) (all_joined-append by bs ys) ∙ joined-assoc by b (all_joined by bs) (all_joined by ys)

pub halves : {X : Type 0} (by : Join) (f : X → Bool) (xs first second : List X) (front back whole : Bool) → xs ≡ first ++ second → front ≡ all_joined by (map f first) → back ≡ all_joined by (map f second) → whole ≡ joined by front back → whole ≡ all_joined by (map f xs)
halves by f xs first second front back whole parts a b is =
    is ∙ (λ j. joined by (a j) (b j)) ∙ sym (all_joined-append by (map f first) (map f second)) ∙ ap (all_joined by) (sym (map-append f first second) ∙ ap (map f) (sym parts))

pub any-halves : {X : Type 0} (f : X → Bool) (xs first second : List X) (front back whole : Bool) → xs ≡ first ++ second → front ≡ list_any f first → back ≡ list_any f second → whole ≡ front || back → whole ≡ list_any f xs
any-halves f xs first second front back whole parts a b is =
    is ∙ (λ j. a j || b j) ∙ sym (list_any-append f first second) ∙ ap (list_any f) (sym parts)
