-- What is read as a query is one.
use Rattle.std.proofs.Common.{◌≡◌, ℕ, suc, true, List, [], ◌∷◌, Option, Some, None, refl, sym, ap, subst, ◌∙◌, inl, inr}
use Rattle.ssb_tokens.specs.declared.token.Token.{Token}
use Rattle.ssb_tokens.specs.declared.token.Token.TheVariants.{Fixed}
use Rattle.ssb_terms.specs.declared.keyword.Keyword.{Keyword}
use Rattle.ssb_terms.specs.declared.keyword.Keyword.TheVariants as words
use Rattle.ssb_tokens.specs.declared.token.Mark.TheVariants as marks
use Rattle.ssb_tokens.specs.declared.token.Sign.TheVariants as s
use Rattle.ssb_sql.specs.declared.named.ColumnName.{ColumnName}
use Rattle.ssb_sql.specs.declared.select.Item.{Item}
use Rattle.ssb_sql.specs.declared.select.Output.{Output}
use Rattle.ssb_sql.specs.declared.select.Order.{Order}
use Rattle.ssb_sql.specs.declared.select.Select.{Select}
use Rattle.ssb_sql.specs.Forms.{Spelling, IsList, IsNamed, IsColumn}
use Rattle.ssb_sql.specs.Grammar.{IsOutput, IsItem, IsFilter, IsWhere, IsHaving, IsGroups, IsOrder, IsOrders, IsEnd, Parses}
use Rattle.ssb_sql.specs.Grammar.IsFilter.{no_filter, filter}
use Rattle.ssb_sql.specs.Grammar.IsGroups.{no_groups, groups}
use Rattle.ssb_sql.specs.Grammar.IsOrders.{no_orders, orders}
use Rattle.ssb_sql.specs.Grammar.IsEnd.{end, semicolon}
use Rattle.ssb_sql.specs.Grammar.Parses.{query}
use Rattle.ssb_sql.specs.Steps.{Parser, after, name_at, list_at}
use Rattle.ssb_sql.specs.ReadParts.{column_at}
use Rattle.ssb_sql.specs.ReadConditions.{cond_at}
use Rattle.ssb_sql.specs.ReadSelects.{output_at, item_at, filter_at, by_at, order_at, is_nil, ends, Clauses, select_of, ordered_at, kept_at, grouped_at, filtered_at, joined_at, query_at}
use Rattle.ssb_tokens.proofs.ReadingFacts.{bind_some}
use Rattle.ssb_sql.proofs.StepFacts.{some_is, choose_some, guard_some, after_is, two_are}
use Rattle.ssb_sql.proofs.Shapes.{Sound, sound_nonempty, spells, starts, begins, followed, sound_list}
use Rattle.ssb_sql.proofs.PartFacts.{sound_name, sound_column}
use Rattle.ssb_sql.proofs.ConditionSound.{sound_cond}
use Rattle.ssb_sql.proofs.ItemFacts.{sound_output, sound_item, sound_order}
use Rattle.ssb_trees.specs.Conditions.{Filter}

-- the word and a condition, or nothing
filter_sound : {C : Type 0} (w : Keyword) (R : Spelling C) (p : ℕ → Parser C) → ((d : ℕ) → Sound (p d) R) → (d : ℕ) (ts : List Token) (x : Option (Filter C) × List Token) → filter_at w p d ts ≡ Some x → IsFilter w R ts x.1 x.0
unfolding filter_at
filter_sound w R p h d ts x e =
    elim (choose_some (after (s.Word w) ts) _ _ (Some x) e) as (λ _. IsFilter w R ts x.1 x.0) [
      | inl g ↦
          let f = bind_some (cond_at p d g.0) _ x g.2 in
          spells (IsFilter w R) ts f.0.1 (Some f.0.0) x (begins (IsFilter w R) (s.Word w) ts g.0 f.0.1 (Some f.0.0) g.1 (filter ((sound_cond R p (λ k. sound_nonempty (p k) R (h k)) d).by g.0 f.0 f.1))) f.2
      | inr g ↦ spells (IsFilter w R) ts ts None x no_filter g.1
    ]

-- the word, BY and a list, or nothing
by_sound : {A : Type 0} (word : Keyword) (p : Parser A) (R : Spelling A) (Q : Spelling (List A)) → Sound p R → ((to : List Token) → Q to to []) → ((from to : List Token) (xs : List A) → IsList R from to xs → Q (Fixed (s.Word word) ∷ Fixed (s.Word words.By) ∷ from) to xs)
    → (ts : List Token) (x : List A × List Token) → by_at word p ts ≡ Some x → Q ts x.1 x.0
unfolding by_at
by_sound word p R Q h none some ts x e =
    elim (choose_some (after (s.Word word) ts) _ _ (Some x) e) as (λ _. Q ts x.1 x.0) [
      | inl g ↦
          let f = bind_some (after (s.Word words.By) g.0) _ x g.2 in
          starts Q ts (Fixed (s.Word word) ∷ Fixed (s.Word words.By) ∷ f.0) x.1 x.0 (two_are (s.Word word) (s.Word words.By) ts g.0 f.0 g.1 f.1) (some f.0 x.1 x.0 ((sound_list p R h).by f.0 x f.2))
      | inr g ↦ spells Q ts ts [] x (none ts) g.1
    ]

nil_is : (ts : List Token) → is_nil ts ≡ true → ts ≡ []
nil_is [] e = refl
nil_is (t ∷ ts) e = absurd cc

ends_sound : (ts : List Token) → ends ts ≡ true → IsEnd ts
unfolding ends
ends_sound ts e =
    elim (choose_some (after (s.Mark marks.Semicolon) ts) _ _ true e) as (λ _. IsEnd ts) [
      | inl g ↦ subst IsEnd (sym (after_is (s.Mark marks.Semicolon) ts g.0 g.1 ∙ ap (λ z. Fixed (s.Mark marks.Semicolon) ∷ z) (nil_is g.0 g.2))) semicolon
      | inr g ↦ subst IsEnd (sym (nil_is ts g.1)) end
    ]

-- the parts of a query, from the last one on
ordered_is : (ts : List Token) (x : List Order) → ordered_at ts ≡ Some x → (to : List Token) × IsOrders ts to x × IsEnd to
unfolding ordered_at
ordered_is ts x e =
    let o = bind_some (by_at words.Order order_at ts) _ x e in
    let z = guard_some (ends o.0.1) o.0.0 x o.2 in
    let here = by_sound words.Order order_at IsOrder IsOrders sound_order (λ to. no_orders) (λ from to xs a. orders a) ts o.0 o.1 in
    (o.0.1, subst (λ y. IsOrders ts o.0.1 y) z.1 here, ends_sound o.0.1 z.0)

kept_is : (d : ℕ) (ts : List Token) (x : Option (Filter Output) × List Order) → kept_at d ts ≡ Some x → (mid to : List Token) × IsHaving ts mid x.0 × IsOrders mid to x.1 × IsEnd to
unfolding kept_at
kept_is d ts x e =
    let h = bind_some (filter_at words.Having output_at (suc d) ts) _ x e in
    let o = bind_some (ordered_at h.0.1) _ x h.2 in
    let q = ordered_is h.0.1 o.0 o.1 in
    let here = filter_sound words.Having IsOutput output_at sound_output (suc d) ts h.0 h.1 in
    subst (λ y. (mid to : List Token) × IsHaving ts mid y.0 × IsOrders mid to y.1 × IsEnd to) (some_is (h.0.0, o.0) x o.2) (h.0.1, q.0, here, q.1, q.2)

grouped_is : (d : ℕ) (ts : List Token) (x : List ColumnName × Option (Filter Output) × List Order) → grouped_at d ts ≡ Some x → (a b to : List Token) × IsGroups ts a x.0 × IsHaving a b x.1 × IsOrders b to x.2 × IsEnd to
unfolding grouped_at
grouped_is d ts x e =
    let g = bind_some (by_at words.Group column_at ts) _ x e in
    let h = bind_some (kept_at d g.0.1) _ x g.2 in
    let q = kept_is d g.0.1 h.0 h.1 in
    let here = by_sound words.Group column_at IsColumn IsGroups sound_column (λ to. no_groups) (λ from to xs a. groups a) ts g.0 g.1 in
    subst (λ y. (a b to : List Token) × IsGroups ts a y.0 × IsHaving a b y.1 × IsOrders b to y.2 × IsEnd to) (some_is (g.0.0, h.0.0, h.0.1) x h.2)
    (g.0.1, q.0, q.1, here, q.2, q.3, q.4)

filtered_is : (d : ℕ) (ts : List Token) (x : Clauses) → filtered_at d ts ≡ Some x
    → (a b c to : List Token) × IsWhere ts a x.0 × IsGroups a b x.1 × IsHaving b c x.2 × IsOrders c to x.3 × IsEnd to
unfolding filtered_at
filtered_is d ts x e =
    let w = bind_some (filter_at words.Where (λ deep. column_at) (suc d) ts) _ x e in
    let g = bind_some (grouped_at d w.0.1) _ x w.2 in
    let q = grouped_is d w.0.1 g.0 g.1 in
    let here = filter_sound words.Where IsColumn (λ deep. column_at) (λ deep. sound_column) (suc d) ts w.0 w.1 in
    subst (λ y. (a b c to : List Token) × IsWhere ts a y.0 × IsGroups a b y.1 × IsHaving b c y.2 × IsOrders c to y.3 × IsEnd to) (some_is (w.0.0, g.0.0, g.0.1, g.0.2) x g.2)
    (w.0.1, q.0, q.1, q.2, here, q.3, q.4, q.5, q.6)

joined_is : (d : ℕ) (a ts : List Token) (items : List Item) (x : List (List ℕ) × Clauses) → IsList IsItem a ts items → joined_at d ts ≡ Some x
    → Parses (Fixed (s.Word words.Select) ∷ a) (select_of items x.0 x.1.0 x.1.1 x.1.2 x.1.3)
unfolding joined_at
joined_is d a ts items x one e =
    let t = bind_some (after (s.Word words.From) ts) _ x e in
    let n = bind_some (list_at name_at t.0) _ x t.2 in
    let w = bind_some (filtered_at d n.0.1) _ x n.2 in
    let q = filtered_is d n.0.1 w.0 w.1 in
    let first = followed (IsList IsItem) (s.Word words.From) a ts t.0 items t.1 one in
    let two = (sound_list name_at IsNamed sound_name).by t.0 n.0 n.1 in
    let read : List (List ℕ) × Clauses = (n.0.0, w.0) in
    subst (λ y. Parses (Fixed (s.Word words.Select) ∷ a) (select_of items y.0 y.1.0 y.1.1 y.1.2 y.1.3)) {x = read} (some_is read x w.2)
    (query first two q.4 q.5 q.6 q.7 q.8)

pub query_sound : (d : ℕ) (ts : List Token) (x : Select) → query_at d ts ≡ Some x → Parses ts x
unfolding query_at
query_sound d ts x e =
    let f = bind_some (after (s.Word words.Select) ts) _ x e in
    let i = bind_some (list_at (item_at d) f.0) _ x f.2 in
    let j = bind_some (joined_at d i.0.1) _ x i.2 in
    let one = (sound_list (item_at d) IsItem (sound_item d)).by f.0 i.0 i.1 in
    let here = joined_is d f.0 i.0.1 i.0.0 j.0 one j.1 in
    subst (λ us. Parses us x) (sym (after_is (s.Word words.Select) ts f.0 f.1)) (subst (λ y. Parses (Fixed (s.Word words.Select) ∷ f.0) y) (some_is (select_of i.0.0 j.0.0 j.0.1.0 j.0.1.1 j.0.1.2 j.0.1.3) x j.2) here)
