-- The same trees over other leaves.
use Rattle.std.proofs.Common.{◌≡◌, ℕ, ◌+◌, ◌<◌, List, [], ◌∷◌, ◌++◌, length, get_or, take, map, Result, Ok, Err, refl, sym, ap, ◌∙◌, subst}
use Rattle.std.specs.Result.{IfOk, IsOkAnd, MatchResult}
use Rattle.std.proofs.lemmas.List.{take_more, map-append}
use Rattle.ssb_trees.specs.Conditions.{Filter, mapped, mapped_columns, mapped_layer, mapped_operand}
use Rattle.ssb_trees.specs.Expressions as expressions
use Rattle.ssb_trees.specs.Expressions.{mapped_step, mapped_step_layer}
use Rattle.ssb_trees.specs.declared.condition.Condition.{Condition}
use Rattle.ssb_trees.specs.declared.condition.Condition.TheVariants as condition
use Rattle.ssb_trees.specs.declared.condition.Condition.TheVariants.{rolls-Any, rolls-All}
use Rattle.ssb_trees.specs.declared.condition.Condition.TheOpen.{Condition-F}
use Rattle.ssb_trees.specs.declared.condition.Condition.TheFolds.{fold-roll-Condition, ind-Condition, map-Condition}
use Rattle.ssb_trees.specs.declared.condition.Condition.TheViews.{roll-Condition}
use Rattle.ssb_trees.specs.declared.operand.Operand.{Operand}
use Rattle.ssb_trees.specs.declared.operand.Operand.TheVariants as operand
use Rattle.ssb_trees.specs.declared.expr.Expr.{Expr}
use Rattle.ssb_trees.specs.declared.expr.Expr.TheFolds.{fold_out-Step}
use Rattle.ssb_trees.specs.declared.expr.Step.{Step}

-- what a constructor makes of what was made
pub made_of : {A B E : Type 0} (r : Result A E) (s : Result B E) (f : A → B) (P : A → Type 0) (Q : B → Type 0) → MatchResult r (λ x. IsOkAnd s (λ y. y ≡ f x)) (λ e. s ≡ Err e) → IfOk r P → ((x : A) → P x → Q (f x)) → IfOk s Q
made_of (Ok x) (Ok y) f P Q h p then = subst Q (sym h) (then x p)
made_of (Ok x) (Err e) f P Q h p then = tt
made_of (Err e) (Ok y) f P Q h p then = absurd cc
made_of (Err e) (Err d) f P Q h p then = tt

-- what follows from what was made, where it was
pub if_made : {A E : Type 0} (r : Result A E) {P Q : A → Type 0} (G : Type 0) → IsOkAnd r Q → IfOk r P → ((x : A) → Q x → P x → G) → G
if_made (Ok x) G q p then = then x q p
if_made (Err e) G q p then = absurd q

-- what was made of what was made
pub ok_of_ok : {A B E : Type 0} (r : Result B E) (s : Result A E) (f : A → B) (P : B → Type 0) → IsOkAnd r P → IfOk r (λ y. IsOkAnd s (λ x. y ≡ f x)) → IsOkAnd s (λ x. P (f x))
ok_of_ok (Ok y) (Ok x) f P p is = subst P is p
ok_of_ok (Ok y) (Err e) f P p is = is
ok_of_ok (Err e) s f P p is = absurd p

-- one more of what a function makes of each
pub map_more : {X Y : Type 0} (f : X → Y) (xs : List X) (i : ℕ) (x : X) → i < length xs → x ≡ get_or xs i x → map f (take (i + 1) xs) ≡ map f (take i xs) ++ f x ∷ []
map_more f xs i x within is = ap (map f) (take_more xs i x within ∙ ap (λ y. take i xs ++ y ∷ []) (sym is)) ∙ map-append f (take i xs) (x ∷ [])

-- ---- parts that AND or OR joins

module _ {O P : Type 0} (f : O → P) (parts : List (Condition O)) (c : Condition O) (made : List (Condition P)) where
  pub any_is : c ≡ condition.Any parts → made ≡ map (mapped O P f) parts → condition.Any made ≡ mapped O P f c
  any_is is h = ap condition.Any h ∙ sym (ap (mapped O P f) (is ∙ sym (rolls-Any parts)) ∙ fold-roll-Condition O (Condition P) (mapped_layer O P f) (Condition-F.Any parts))

  pub all_is : c ≡ condition.All parts → made ≡ map (mapped O P f) parts → condition.All made ≡ mapped O P f c
  all_is is h = ap condition.All h ∙ sym (ap (mapped O P f) (is ∙ sym (rolls-All parts)) ∙ fold-roll-Condition O (Condition P) (mapped_layer O P f) (Condition-F.All parts))

-- ---- where each operand becomes itself, the condition does

module _ (O : Type 0) where
  abbrev pub same : O → O
  same o = o

  abbrev Stays : Condition O → Type 0
  Stays c = mapped O O same c ≡ c

  all_stay : (es : List ((c : Condition O) × Stays c)) → map (mapped O O same) (map (λ e. e.0) es) ≡ map (λ e. e.0) es
  all_stay [] = refl
  all_stay (e ∷ es) = ap (λ c. c ∷ map (mapped O O same) (map (λ e. e.0) es)) e.1 ∙ ap (λ cs. e.0 ∷ cs) (all_stay es)

  by_layer : (x : Condition-F O (Condition O)) → mapped_layer O O same (map-Condition O (Condition O) (Condition O) (mapped O O same) x) ≡ roll-Condition O x → Stays (roll-Condition O x)
  by_layer x h = fold-roll-Condition O (Condition O) (mapped_layer O O same) x ∙ h

  cases : (y : Condition-F O ((c : Condition O) × Stays c)) → Stays (roll-Condition O (map-Condition O ((c : Condition O) × Stays c) (Condition O) (λ e. e.0) y))
  unfolding roll-Condition denote.Hole.Carrier.roll
  cases (Condition-F.Any es) = by_layer (Condition-F.Any (map (λ e. e.0) es)) (ap (λ cs. roll-Condition O (Condition-F.Any cs)) (all_stay es))
  cases (Condition-F.All es) = by_layer (Condition-F.All (map (λ e. e.0) es)) (ap (λ cs. roll-Condition O (Condition-F.All cs)) (all_stay es))
  cases (Condition-F.Not e) = by_layer (Condition-F.Not e.0) (ap (λ c. roll-Condition O (Condition-F.Not c)) e.1)
  cases (Condition-F.Compare op a b) = by_layer (Condition-F.Compare op a b) refl
  cases (Condition-F.Between x a b negated) = by_layer (Condition-F.Between x a b negated) refl
  cases (Condition-F.In x ls negated) = by_layer (Condition-F.In x ls negated) refl
  cases (Condition-F.IsNull x negated) = by_layer (Condition-F.IsNull x negated) refl

  pub mapped_same : (c : Condition O) → mapped O O same c ≡ c
  mapped_same = ind-Condition O Stays (λ x y is. subst (λ z. Stays (roll-Condition O z)) is (cases y))

-- where each column becomes itself, so does each operand
same_operand : (C : Type 0) (o : Operand C) → mapped_operand C C (same C) o ≡ o
same_operand C (operand.Column x) = refl
same_operand C (operand.Literal l) = refl

pub mapped_same_columns : (C : Type 0) (c : Filter C) → mapped_columns (same C) c ≡ c
mapped_same_columns C c = ap (λ f. mapped (Operand C) (Operand C) f c) (λ j o. same_operand C o j) ∙ mapped_same (Operand C) c

-- ---- a step becomes a step

-- the step with the sign of one and another term
abbrev pub with_term : {C D : Type 0} → Step C → Expr D → Step D
with_term s term = record { adding = s.adding; term = term }

pub mapped_of_step : (C D : Type 0) (f : C → D) (s : Step C) → mapped_step C D f s ≡ with_term s (expressions.mapped C D f s.term)
mapped_of_step C D f = fold_out-Step C (Expr D) (Step D) (expressions.mapped_layer C D f) (mapped_step_layer C D)
