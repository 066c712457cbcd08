-- Items of the select list and keys of ORDER BY are read exactly.
use Rattle.std.proofs.Common.{◌≡◌, ℕ, zero, suc, true, false, List, ◌∷◌, Option, Some, None, refl, sym, ap, subst, ◌∙◌, arith, inl, inr}
use Rattle.ssb_tokens.specs.declared.token.Token.{Token}
use Rattle.ssb_tokens.specs.declared.token.Token.TheVariants.{Fixed, Name, Number}
use Rattle.ssb_terms.specs.declared.keyword.Keyword.{Keyword}
use Rattle.ssb_terms.specs.declared.keyword.Keyword.TheVariants as words
use Rattle.ssb_tokens.specs.declared.token.Mark.TheVariants as marks
use Rattle.ssb_tokens.specs.declared.token.Sign.TheVariants as s
use Rattle.ssb_trees.specs.declared.aggregate.Aggregate.TheVariants as a
use Rattle.ssb_trees.specs.declared.aggregate.SetFunction.{SetFunction}
use Rattle.ssb_trees.specs.declared.aggregate.SetFunction.TheVariants as functions
use Rattle.ssb_sql.specs.declared.select.Output.{Output}
use Rattle.ssb_sql.specs.declared.select.Output.TheVariants as u
use Rattle.ssb_sql.specs.declared.select.Item.{Item}
use Rattle.ssb_sql.specs.declared.select.Key.{Key}
use Rattle.ssb_sql.specs.declared.select.Key.TheVariants as k
use Rattle.ssb_sql.specs.declared.select.Order.{Order}
use Rattle.ssb_sql.specs.Forms.{IsColumn}
use Rattle.ssb_sql.specs.Expressions.{IsExpr}
use Rattle.ssb_sql.specs.Grammar.{function_word, IsAggregate, IsOutput, IsItem, IsKey, IsOrder}
use Rattle.ssb_sql.specs.Room.{HasRoom}
use Rattle.ssb_sql.specs.Grammar.IsAggregate.{rows, of}
use Rattle.ssb_sql.specs.Grammar.IsOutput.{column, aggregate}
use Rattle.ssb_sql.specs.Grammar.IsItem.{unnamed, named}
use Rattle.ssb_sql.specs.Grammar.IsKey.{name, position}
use Rattle.ssb_sql.specs.Grammar.IsOrder.{plain, asc, desc}
use Rattle.ssb_tokens.specs.Reading.{◌>>=◌}
use Rattle.ssb_sql.specs.Steps.{after, name_at, closed_at, Shrinks}
use Rattle.ssb_sql.specs.ReadParts.{column_at}
use Rattle.ssb_sql.specs.ReadExpressions.{expr_at}
use Rattle.ssb_sql.specs.ReadSelects.{function_of, function_at, star_at, argument_at, aggregate_at, output_at, item_of, alias_at, item_at, key_at, order_of, order_at}
use Rattle.ssb_tokens.proofs.ReadingFacts.{bind_some}
use Rattle.ssb_sql.proofs.StepFacts.{some_is, choose_some, after_is, two_are}
use Rattle.ssb_sql.proofs.Shapes.{Sound, Tame, Went, went, tame, spells, starts, followed, sound_closed, shrinks}
use Rattle.ssb_sql.proofs.PartFacts.{name_is, sound_column, tame_column}
use Rattle.ssb_sql.proofs.ExpressionSound.{sound_expr, tame_expr}
use Rattle.ssb_sql.specs.declared.named.ColumnName.{ColumnName}
use Rattle.ssb_trees.specs.declared.aggregate.Aggregate.{Aggregate}

-- the word of a function
function_named : (w : Keyword) (f : SetFunction) → function_of w ≡ Some f → w ≡ function_word f
function_named words.Sum f e = ap function_word (some_is functions.Sum f e)
function_named words.Count f e = ap function_word (some_is functions.Count f e)
function_named words.Min f e = ap function_word (some_is functions.Min f e)
function_named words.Max f e = ap function_word (some_is functions.Max f e)
function_named _ f e = absurd cc

function_is : (ts : List Token) (f : SetFunction × List Token) → function_at ts ≡ Some f → ts ≡ Fixed (s.Word (function_word f.0)) ∷ f.1
unfolding function_at
function_is (Fixed (s.Word w) ∷ ts) f e =
    let g = bind_some (function_of w) (λ y. Some (y, ts)) f e in
    ap (λ z. Fixed (s.Word z) ∷ ts) (function_named w g.0 g.1) ∙ ap (λ z. Fixed (s.Word (function_word z.0)) ∷ z.1) (some_is (g.0, ts) f g.2)
function_is _ f e = absurd cc

-- only COUNT takes a `*`
star_is : (f : SetFunction) (ts rest : List Token) → star_at f ts ≡ Some rest → (f ≡ functions.Count) × (after (s.Mark marks.Times) ts ≡ Some rest)
unfolding star_at
star_is functions.Count ts rest e = (refl, e)
star_is _ ts rest e = absurd cc

-- what follows a function and its `(`
of_sound : (d : ℕ) (f : SetFunction) (ts : List Token) (x : Aggregate ColumnName × List Token) → (closed_at (expr_at d) ts >>= λ y. Some (a.Of f y.0, y.1)) ≡ Some x → IsAggregate (Fixed (s.Word (function_word f)) ∷ Fixed (s.Mark marks.Open) ∷ ts) x.1 x.0
of_sound d f ts x e =
    let g = bind_some (closed_at (expr_at d) ts) _ x e in
    spells IsAggregate (Fixed (s.Word (function_word f)) ∷ Fixed (s.Mark marks.Open) ∷ ts) g.0.1 (a.Of f g.0.0) x (of (sound_closed (expr_at d) IsExpr (sound_expr d) ts g.0 g.1)) g.2

argument_sound : (d : ℕ) (f : SetFunction) (ts : List Token) (x : Aggregate ColumnName × List Token) → argument_at d f ts ≡ Some x → IsAggregate (Fixed (s.Word (function_word f)) ∷ Fixed (s.Mark marks.Open) ∷ ts) x.1 x.0
unfolding argument_at
argument_sound d f ts x e =
    let whole = Fixed (s.Word (function_word f)) ∷ Fixed (s.Mark marks.Open) ∷ ts in
    elim (choose_some (star_at f ts) _ _ (Some x) e) as (λ _. IsAggregate whole x.1 x.0) [
      | inl g ↦
          let q = bind_some (after (s.Mark marks.Close) g.0) _ x g.2 in
          let star = star_is f ts g.0 g.1 in
          let m : whole ≡ Fixed (s.Word words.Count) ∷ Fixed (s.Mark marks.Open) ∷ Fixed (s.Mark marks.Times) ∷ Fixed (s.Mark marks.Close) ∷ q.0 = rw (star.0, two_are (s.Mark marks.Times) (s.Mark marks.Close) ts g.0 q.0 star.1 q.1) refl in
          spells IsAggregate whole q.0 a.Rows x (subst (λ z. IsAggregate z q.0 a.Rows) (sym m) rows) q.2
      | inr b ↦ of_sound d f ts x b.1
    ]

aggregate_sound : (d : ℕ) (ts : List Token) (f : SetFunction × List Token) (x : Aggregate ColumnName × List Token) → function_at ts ≡ Some f → aggregate_at d f.0 f.1 ≡ Some x → IsAggregate ts x.1 x.0
unfolding aggregate_at
aggregate_sound d ts f x is e =
    let q = bind_some (after (s.Mark marks.Open) f.1) _ x e in
    let m = function_is ts f is ∙ ap (λ z. Fixed (s.Word (function_word f.0)) ∷ z) (after_is (s.Mark marks.Open) f.1 q.0 q.1) in
    starts IsAggregate ts (Fixed (s.Word (function_word f.0)) ∷ Fixed (s.Mark marks.Open) ∷ q.0) x.1 x.0 m (argument_sound d f.0 q.0 x q.2)

output_sound : (d : ℕ) (ts : List Token) (x : Output × List Token) → output_at d ts ≡ Some x → IsOutput ts x.1 x.0
unfolding output_at
output_sound d ts x e =
    elim (choose_some (function_at ts) _ _ (Some x) e) as (λ _. IsOutput ts x.1 x.0) [
      | inl g ↦
          let f = bind_some (aggregate_at d g.0.0 g.0.1) _ x g.2 in
          spells IsOutput ts f.0.1 (u.Aggregate f.0.0) x (aggregate (aggregate_sound d ts g.0 f.0 g.1 f.1)) f.2
      | inr g ↦
          let f = bind_some (column_at ts) _ x g.1 in
          spells IsOutput ts f.0.1 (u.Column f.0.0) x (column (sound_column.by ts f.0 f.1)) f.2
    ]

pub sound_output : (d : ℕ) → Sound (output_at d) IsOutput
sound_output d = record { by = output_sound d }

-- an item, from its output and what AS gives
named_sound : (ts mid : List Token) (y : Output) (n : Option (List ℕ) × List Token) → IsOutput ts mid y → alias_at mid ≡ Some n → IsItem ts n.1 (item_of y n.0)
unfolding alias_at
named_sound ts mid y n one e =
    elim (choose_some (after (s.Word words.As) mid) _ _ (Some n) e) as (λ _. IsItem ts n.1 (item_of y n.0)) [
      | inl g ↦
          let q = bind_some (name_at g.0) _ n g.2 in
          let m : mid ≡ Fixed (s.Word words.As) ∷ Name q.0.0 ∷ q.0.1 = after_is (s.Word words.As) mid g.0 g.1 ∙ ap (λ z. Fixed (s.Word words.As) ∷ z) (name_is g.0 q.0 q.1) in
          subst (λ z. IsItem ts z.1 (item_of y z.0)) (some_is (Some q.0.0, q.0.1) n q.2) (named (subst (λ z. IsOutput ts z y) m one))
      | inr g ↦ subst (λ z. IsItem ts z.1 (item_of y z.0)) (some_is (None, mid) n g.1) (unnamed one)
    ]

item_sound : (d : ℕ) (ts : List Token) (x : Item × List Token) → item_at d ts ≡ Some x → IsItem ts x.1 x.0
unfolding item_at
item_sound d ts x e =
    let f = bind_some (output_at d ts) _ x e in
    let n = bind_some (alias_at f.0.1) _ x f.2 in
    spells IsItem ts n.0.1 (item_of f.0.0 n.0.0) x (named_sound ts f.0.1 f.0.0 n.0 (output_sound d ts f.0 f.1) n.1) n.2

pub sound_item : (d : ℕ) → Sound (item_at d) IsItem
sound_item d = record { by = item_sound d }

key_sound : (ts : List Token) (x : Key × List Token) → key_at ts ≡ Some x → IsKey ts x.1 x.0
unfolding key_at
key_sound (Name n ∷ ts) x e = spells IsKey (Name n ∷ ts) ts (k.Name n) x name e
key_sound (Number n ∷ ts) x e = spells IsKey (Number n ∷ ts) ts (k.Position n) x position e
key_sound _ x e = absurd cc

order_sound : (ts : List Token) (x : Order × List Token) → order_at ts ≡ Some x → IsOrder ts x.1 x.0
unfolding order_at
order_sound ts x e =
    let f = bind_some (key_at ts) _ x e in
    let one = key_sound ts f.0 f.1 in
    elim (choose_some (after (s.Word words.Asc) f.0.1) _ _ (Some x) f.2) as (λ _. IsOrder ts x.1 x.0) [
      | inl g ↦ spells IsOrder ts g.0 (order_of f.0.0 false) x (asc (followed IsKey (s.Word words.Asc) ts f.0.1 g.0 f.0.0 g.1 one)) g.2
      | inr b ↦
          elim (choose_some (after (s.Word words.Desc) f.0.1) _ _ (Some x) b.1) as (λ _. IsOrder ts x.1 x.0) [
            | inl g ↦ spells IsOrder ts g.0 (order_of f.0.0 true) x (desc (followed IsKey (s.Word words.Desc) ts f.0.1 g.0 f.0.0 g.1 one)) g.2
            | inr g ↦ spells IsOrder ts f.0.1 (order_of f.0.0 false) x (plain one) g.1
          ]
    ]

pub sound_order : Sound order_at IsOrder
sound_order = record { by = order_sound }

-- a word, and what stands in the parentheses behind it
parens_went : (k : Keyword) (from to : List Token) → Went from (Fixed (s.Mark marks.Close) ∷ to) → Went (Fixed (s.Word k) ∷ Fixed (s.Mark marks.Open) ∷ from) to
parens_went k from to p = record { shorter = let q = p.shorter in omega arith; within = λ d h. inside d h }
  where
    inside : (d : ℕ) → HasRoom d (Fixed (s.Word k) ∷ Fixed (s.Mark marks.Open) ∷ from) → HasRoom d to
    inside zero h = absurd h
    inside (suc d) h = p.within d h

aggregate_went : {from to : List Token} {x : Aggregate ColumnName} → IsAggregate from to x → Went from to
aggregate_went (rows {to = to}) = parens_went words.Count (Fixed (s.Mark marks.Times) ∷ Fixed (s.Mark marks.Close) ∷ to) to (record { shorter = omega arith; within = λ d h. h })
aggregate_went (of {from = from} {to = to} {f = f} h) = parens_went (function_word f) from to (went IsExpr tame_expr h)

output_went : {from to : List Token} {x : Output} → IsOutput from to x → Went from to
output_went (column h) = went IsColumn tame_column h
output_went (aggregate h) = aggregate_went h

pub tame_output : Tame IsOutput
tame_output = tame IsOutput (λ from to x h. output_went h)

item_went : {from to : List Token} {x : Item} → IsItem from to x → Went from to
item_went (unnamed a) = output_went a
item_went (named a) =
    let p = output_went a in
    record { shorter = let q = p.shorter in omega arith; within = λ d h. p.within d h }

pub tame_item : Tame IsItem
tame_item = tame IsItem (λ from to x h. item_went h)

key_went : {from to : List Token} {x : Key} → IsKey from to x → Went from to
key_went name = record { shorter = omega arith; within = λ d h. h }
key_went position = record { shorter = omega arith; within = λ d h. h }

-- one more word behind
word_went : (k : Keyword) (from to : List Token) → Went from (Fixed (s.Word k) ∷ to) → Went from to
word_went k from to p = record { shorter = let q = p.shorter in omega arith; within = λ d h. p.within d h }

order_went : {from to : List Token} {x : Order} → IsOrder from to x → Went from to
order_went (plain a) = key_went a
order_went (asc {from = from} {to = to} a) = word_went words.Asc from to (key_went a)
order_went (desc {from = from} {to = to} a) = word_went words.Desc from to (key_went a)

pub tame_order : Tame IsOrder
tame_order = tame IsOrder (λ from to x h. order_went h)

pub item_shrinks : (d : ℕ) → Shrinks (after (s.Mark marks.Comma)) (item_at d)
item_shrinks d = shrinks (s.Mark marks.Comma) (item_at d) IsItem (sound_item d) tame_item

pub order_shrinks : Shrinks (after (s.Mark marks.Comma)) order_at
order_shrinks = shrinks (s.Mark marks.Comma) order_at IsOrder sound_order tame_order
