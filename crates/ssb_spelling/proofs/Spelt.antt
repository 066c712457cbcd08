-- How far a title has come.
use Rattle.std.proofs.Common.{◌≡◌, ◌∙◌, ◌++◌, ◌∷◌, ◌<◌, ◌≤◌, ◌+◌, [], ℕ, Bool, List, Result, Ok, Err, OnOk, length, drop, get_or, map, sym, ap, ap₂, append_assoc}
use Rattle.std.proofs.lemmas.List.{append-nil, at_drop_all, at_drop_more}
use Rattle.ssb_trees.specs.Lists.{concat}
use Rattle.ssb_trees.specs.declared.expr.Expr.{Expr}
use Rattle.ssb_trees.specs.declared.expr.Expr.TheVariants as expr
use Rattle.ssb_trees.specs.declared.expr.Expr.TheVariants.{rolls-Chain, rolls-Times}
use Rattle.ssb_trees.specs.declared.expr.Expr.TheOpen.{Expr-F}
use Rattle.ssb_trees.specs.declared.expr.Expr.TheFolds.{fold-roll-Expr, fold_out-Step}
use Rattle.ssb_trees.specs.declared.expr.Expr.TheViews.{roll-Expr}
use Rattle.ssb_trees.specs.declared.expr.Step.{Step}
use Rattle.ssb_query.specs.declared.column.BoundColumn.{BoundColumn}
use Rattle.ssb_spelling.specs.Titles.{Spelt, as_factor, as_term, closed_unless, expr_layer, operator, product_of, spelling, step_layer, step_spelling, times}
use Rattle.ssb_spelling.specs.declared.form.Form.{Form}

-- one part more of a list is put, and the rest is left
pub put-more : {X : Type 0} (text : List X → List ℕ) (part : X → List ℕ) (xs : List X) (i : ℕ) (x : X) (now next goal : List ℕ)
    → ((y : X) (ys : List X) → text (y ∷ ys) ≡ part y ++ text ys) → i < length xs → x ≡ get_or xs i x → next ≡ now ++ part x → now ++ text (drop i xs) ≡ goal → next ++ text (drop (i + 1) xs) ≡ goal
put-more text part xs i x now next goal splits below is grew so_far =
    ap (λ t. t ++ text (drop (i + 1) xs)) grew ∙ append_assoc now (part x) (text (drop (i + 1) xs)) ∙ ap (λ y. now ++ (part y ++ text (drop (i + 1) xs))) is
    ∙ ap (λ t. now ++ t) (sym (splits (get_or xs i x) (drop (i + 1) xs))) ∙ sym (at_drop_more (λ ys. now ++ text ys) xs i x below) ∙ so_far

-- and at the end all of it
pub put-all : {X : Type 0} (text : List X → List ℕ) (xs : List X) (i : ℕ) (now goal : List ℕ) → text [] ≡ [] → length xs ≤ i → now ++ text (drop i xs) ≡ goal → now ≡ goal
put-all text xs i now goal none past so_far = sym (append-nil now) ∙ ap (λ t. now ++ t) (sym none) ∙ sym (at_drop_all (λ ys. now ++ text ys) xs i past) ∙ so_far

-- whatever follows from what is ensured of an `Ok`
pub on-ok : {A E : Type 0} {P Q : Type 0} (r : Result A E) → (P → Q) → OnOk r P → OnOk r Q
on-ok (Ok a) f p = f p
on-ok (Err e) f p = tt

-- a part in the form that its place asks for
pub part-grew : (s : Spelt) (test : Form → Bool) (form : Form) (bare : Bool) (now next : List ℕ) → form ≡ s.form → bare ≡ test form → next ≡ now ++ closed_unless bare s.text → next ≡ now ++ closed_unless (test s.form) s.text
part-grew s test form bare now next form-is bare-is grew = grew ∙ ap (λ b. now ++ closed_unless b s.text) (bare-is ∙ ap test form-is)

-- a further term of a chain
pub step-grew : (name : BoundColumn → List ℕ) (s : Step BoundColumn) (now mid next op : List ℕ) → op ≡ operator s.adding → mid ≡ now ++ op → next ≡ mid ++ as_term (spelling name s.term) → next ≡ now ++ step_spelling name s
step-grew name s now mid next op op-is first second =
    second ∙ ap (λ t. t ++ as_term (spelling name s.term)) (first ∙ ap (λ o. now ++ o) op-is) ∙ append_assoc now (operator s.adding) (as_term (spelling name s.term))
    ∙ ap (λ t. now ++ t) (sym (fold_out-Step BoundColumn Spelt (List ℕ) (expr_layer name) step_layer s))

-- a chain
chain-of : (name : BoundColumn → List ℕ) (first : Expr BoundColumn) (steps : List (Step BoundColumn)) → (spelling name (expr.Chain first steps)).text ≡ as_term (spelling name first) ++ concat (map (step_spelling name) steps)
unfolding roll-Expr denote.Hole.Carrier.roll
chain-of name first steps = ap (λ e. (spelling name e).text) (sym (rolls-Chain first steps)) ∙ ap (λ s. s.text) (fold-roll-Expr BoundColumn Spelt (List ℕ) (expr_layer name) step_layer (Expr-F.Chain first steps))

pub chain-grew : (name : BoundColumn → List ℕ) (e first got : Expr BoundColumn) (steps slice : List (Step BoundColumn)) (now mid next : List ℕ) → e ≡ expr.Chain first steps → got ≡ first → slice ≡ steps
    → mid ≡ now ++ as_term (spelling name got) → next ≡ mid ++ concat (map (step_spelling name) slice) → next ≡ now ++ (spelling name e).text
chain-grew name e first got steps slice now mid next is got-is slice-is one two =
    two ∙ ap₂ (λ m ss. m ++ concat (map (step_spelling name) ss)) (one ∙ ap (λ x. now ++ as_term (spelling name x)) got-is) slice-is
    ∙ append_assoc now (as_term (spelling name first)) (concat (map (step_spelling name) steps)) ∙ ap (λ t. now ++ t) (sym (ap (λ x. (spelling name x).text) is ∙ chain-of name first steps))

-- a product
times-of : (name : BoundColumn → List ℕ) (factors : List (Expr BoundColumn)) → (spelling name (expr.Times factors)).text ≡ product_of (map (spelling name) factors)
unfolding roll-Expr denote.Hole.Carrier.roll
times-of name factors = ap (λ e. (spelling name e).text) (sym (rolls-Times factors)) ∙ ap (λ s. s.text) (fold-roll-Expr BoundColumn Spelt (List ℕ) (expr_layer name) step_layer (Expr-F.Times factors))

pub times-grew : (name : BoundColumn → List ℕ) (e first : Expr BoundColumn) (factors slice rest : List (Expr BoundColumn)) (now mid next : List ℕ) → e ≡ expr.Times factors → slice ≡ factors → slice ≡ first ∷ rest
    → mid ≡ now ++ as_factor (spelling name first) → next ≡ mid ++ times (map (spelling name) rest) → next ≡ now ++ (spelling name e).text
times-grew name e first factors slice rest now mid next is slice-is splits one two =
    two ∙ ap (λ m. m ++ times (map (spelling name) rest)) one ∙ append_assoc now (as_factor (spelling name first)) (times (map (spelling name) rest))
    ∙ ap (λ t. now ++ t) (sym (ap (λ x. (spelling name x).text) is ∙ times-of name factors ∙ ap (λ xs. product_of (map (spelling name) xs)) (sym slice-is ∙ splits)))
