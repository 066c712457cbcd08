-- Columns, literals and operands are read exactly.
use Rattle.std.proofs.Common.{◌≡◌, ℕ, ◌≤◌, ◌<◌, true, false, List, length, ◌∷◌, Some, None, refl, sym, ap, subst, ◌∙◌, arith, inl, inr, pos, ℤ}
use Rattle.std.specs.Prelude.{nat_le, neg_ℤ}
use Rattle.std.proofs.lemmas.Bool.{leb-true, le-leb}
use Rattle.ssb_tokens.specs.declared.token.Token.{Token}
use Rattle.ssb_tokens.specs.declared.token.Token.TheVariants.{Fixed, Name, Number, Text}
use Rattle.ssb_tokens.specs.declared.token.Mark.TheVariants as marks
use Rattle.ssb_tokens.specs.declared.token.Sign.{Sign}
use Rattle.ssb_tokens.specs.declared.token.Sign.TheVariants as s
use Rattle.ssb_terms.specs.declared.keyword.Keyword.TheVariants as words
use Rattle.ssb_sql.specs.declared.named.ColumnName.{ColumnName}
use Rattle.ssb_terms.specs.declared.literal.Literal.{Literal}
use Rattle.ssb_terms.specs.declared.literal.Literal.TheVariants as l
use Rattle.ssb_trees.specs.declared.operand.Operand.TheVariants as o
use Rattle.ssb_sql.specs.Forms.{Spelling, IsNamed, IsColumn, IsLiteral, IsOperand}
use Rattle.ssb_sql.specs.Forms.IsNamed.{name}
use Rattle.ssb_sql.specs.Forms.IsColumn.{alone, dotted}
use Rattle.ssb_sql.specs.Forms.IsLiteral.{number, positive, negative, text}
use Rattle.ssb_sql.specs.Forms.IsOperand.{column, literal}
use Rattle.ssb_sql.specs.Room.{HasRoom}
use Rattle.ssb_sql.specs.Steps.{after, is_fixed, Parser, name_at, number_at, is_literal_next, nonempty_at, Shrinks}
use Rattle.ssb_sql.specs.ReadParts.{column_of, column_at, small_at, below_at, plain_literal_at, literal_at, operand_at}
use Rattle.ssb_tokens.proofs.ReadingFacts.{bind_some}
use Rattle.ssb_sql.proofs.StepFacts.{some_is, choose_some, if_some, after_is, Stops, stops, differs, sees}
use Rattle.ssb_sql.proofs.Shapes.{Sound, Shorter, Tame, Complete, Went, went, tame, spells, starts, shrinks, nonempty_read}
use Rattle.ssb_trees.specs.declared.operand.Operand.{Operand}

pub name_is : (ts : List Token) (x : List ℕ × List Token) → name_at ts ≡ Some x → ts ≡ Name x.0 ∷ x.1
unfolding name_at
name_is (Name n ∷ ts) x e = ap (λ z. Name z.0 ∷ z.1) (some_is (n, ts) x e)
name_is _ x e = absurd cc

pub number_is : (ts : List Token) (x : ℕ × List Token) → number_at ts ≡ Some x → ts ≡ Number x.0 ∷ x.1
unfolding number_at
number_is (Number n ∷ ts) x e = ap (λ z. Number z.0 ∷ z.1) (some_is (n, ts) x e)
number_is _ x e = absurd cc

pub sound_name : Sound name_at IsNamed
sound_name = record { by = λ ts x e. subst (λ us. IsNamed us x.1 x.0) (sym (name_is ts x e)) name }

column_sound : (ts : List Token) (x : ColumnName × List Token) → column_at ts ≡ Some x → IsColumn ts x.1 x.0
unfolding column_at
column_sound ts x e =
    let f = bind_some (name_at ts) _ x e in
    elim (choose_some (after (s.Mark marks.Dot) f.0.1) _ _ (Some x) f.2) as (λ _. IsColumn ts x.1 x.0) [
      | inl g ↦
          let q = bind_some (name_at g.0) _ x g.2 in
          let here = starts IsColumn ts (Name f.0.0 ∷ Fixed (s.Mark marks.Dot) ∷ Name q.0.0 ∷ q.0.1) q.0.1 (column_of (Some f.0.0) q.0.0)
          (name_is ts f.0 f.1 ∙ ap (λ z. Name f.0.0 ∷ z) (after_is (s.Mark marks.Dot) f.0.1 g.0 g.1 ∙ ap (λ z. Fixed (s.Mark marks.Dot) ∷ z) (name_is g.0 q.0 q.1))) dotted in
          spells IsColumn ts q.0.1 (column_of (Some f.0.0) q.0.0) x here q.2
      | inr g ↦ spells IsColumn ts f.0.1 (column_of None f.0.0) x (starts IsColumn ts (Name f.0.0 ∷ f.0.1) f.0.1 (column_of None f.0.0) (name_is ts f.0 f.1) alone) g.1
    ]

pub sound_column : Sound column_at IsColumn
sound_column = record { by = column_sound }

le_is : (n m : ℕ) → nat_le n m ≡ true → n ≤ m
le_is n m e = leb-true n m e

small_is : (ts : List Token) (x : ℤ × List Token) → small_at ts ≡ Some x → (n : ℕ) × (ts ≡ Number n ∷ x.1) × (n ≤ 9223372036854775807) × (pos n ≡ x.0)
unfolding small_at
small_is ts x e =
    let f = bind_some (number_at ts) _ x e in
    elim (if_some (nat_le f.0.0 9223372036854775807) _ _ (Some x) f.2) as (λ _. (n : ℕ) × (ts ≡ Number n ∷ x.1) × (n ≤ 9223372036854775807) × (pos n ≡ x.0)) [
      | inl g ↦
          let same = some_is (pos f.0.0, f.0.1) x g.1 in
          (f.0.0, number_is ts f.0 f.1 ∙ ap (λ z. Number f.0.0 ∷ z.1) same, le_is f.0.0 9223372036854775807 g.0, ap (λ z. z.0) same)
      | inr g ↦ absurd cc
    ]

below_is : (ts : List Token) (x : ℤ × List Token) → below_at ts ≡ Some x → (n : ℕ) × (ts ≡ Number n ∷ x.1) × (n ≤ 9223372036854775807) × (neg_ℤ (pos n) ≡ x.0)
unfolding below_at
below_is ts x e =
    let f = bind_some (number_at ts) _ x e in
    elim (if_some (nat_le f.0.0 9223372036854775807) _ _ (Some x) f.2) as (λ _. (n : ℕ) × (ts ≡ Number n ∷ x.1) × (n ≤ 9223372036854775807) × (neg_ℤ (pos n) ≡ x.0)) [
      | inl g ↦
          let same = some_is (neg_ℤ (pos f.0.0), f.0.1) x g.1 in
          (f.0.0, number_is ts f.0 f.1 ∙ ap (λ z. Number f.0.0 ∷ z.1) same, le_is f.0.0 9223372036854775807 g.0, ap (λ z. z.0) same)
      | inr g ↦ absurd cc
    ]

plain_literal_sound : (ts : List Token) (x : Literal × List Token) → plain_literal_at ts ≡ Some x → IsLiteral ts x.1 x.0
unfolding plain_literal_at
plain_literal_sound (Text t ∷ ts) x e = spells IsLiteral (Text t ∷ ts) ts (l.Text t) x text e
plain_literal_sound ts x e =
    let f = bind_some (small_at ts) _ x e in
    let q = small_is ts f.0 f.1 in
    spells IsLiteral ts f.0.1 (l.Number f.0.0) x (subst (λ z. IsLiteral ts f.0.1 (l.Number z)) q.3 (starts IsLiteral ts (Number q.0 ∷ f.0.1) f.0.1 (l.Number (pos q.0)) q.1 (number q.2))) f.2

literal_sound : (ts : List Token) (x : Literal × List Token) → literal_at ts ≡ Some x → IsLiteral ts x.1 x.0
unfolding literal_at
literal_sound ts x e =
    elim (choose_some (after (s.Mark marks.Plus) ts) _ _ (Some x) e) as (λ _. IsLiteral ts x.1 x.0) [
      | inl g ↦
          let f = bind_some (small_at g.0) _ x g.2 in
          let q = small_is g.0 f.0 f.1 in
          spells IsLiteral ts f.0.1 (l.Number f.0.0) x (subst (λ z. IsLiteral ts f.0.1 (l.Number z)) q.3 (starts IsLiteral ts (Fixed (s.Mark marks.Plus) ∷ Number q.0 ∷ f.0.1) f.0.1 (l.Number (pos q.0)) (after_is (s.Mark marks.Plus) ts g.0 g.1 ∙ ap (λ z. Fixed (s.Mark marks.Plus) ∷ z) q.1) (positive q.2))) f.2
      | inr a ↦
          elim (choose_some (after (s.Mark marks.Minus) ts) _ _ (Some x) a.1) as (λ _. IsLiteral ts x.1 x.0) [
            | inl g ↦
                let f = bind_some (below_at g.0) _ x g.2 in
                let q = below_is g.0 f.0 f.1 in
                spells IsLiteral ts f.0.1 (l.Number f.0.0) x (subst (λ z. IsLiteral ts f.0.1 (l.Number z)) q.3 (starts IsLiteral ts (Fixed (s.Mark marks.Minus) ∷ Number q.0 ∷ f.0.1) f.0.1 (l.Number (neg_ℤ (pos q.0))) (after_is (s.Mark marks.Minus) ts g.0 g.1 ∙ ap (λ z. Fixed (s.Mark marks.Minus) ∷ z) q.1) (negative q.2))) f.2
            | inr g ↦ plain_literal_sound ts x g.1
          ]
    ]

pub sound_literal : Sound literal_at IsLiteral
sound_literal = record { by = literal_sound }

operand_sound : {C : Type 0} (R : Spelling C) (p : Parser C) → Sound (nonempty_at p) R → (ts : List Token) (x : Operand C × List Token) → operand_at p ts ≡ Some x → IsOperand R ts x.1 x.0
unfolding operand_at
operand_sound R p h ts x e =
    elim (if_some (is_literal_next ts) _ _ (Some x) e) as (λ _. IsOperand R ts x.1 x.0) [
      | inl g ↦
          let f = bind_some (literal_at ts) _ x g.1 in
          spells (IsOperand R) ts f.0.1 (o.Literal f.0.0) x (literal (literal_sound ts f.0 f.1)) f.2
      | inr g ↦
          let f = bind_some (nonempty_at p ts) _ x g.1 in
          spells (IsOperand R) ts f.0.1 (o.Column f.0.0) x (column (h.by ts f.0 f.1)) f.2
    ]

pub sound_operand : {C : Type 0} (R : Spelling C) (p : Parser C) → Sound (nonempty_at p) R → Sound (operand_at p) (IsOperand R)
sound_operand R p h = record { by = operand_sound R p h }

pub tame_name : Tame IsNamed
tame_name = tame IsNamed (λ from to x h. name_went h)
  where
    name_went : {from to : List Token} {x : List ℕ} → IsNamed from to x → Went from to
    name_went name = record { shorter = omega arith; within = λ d h. h }

column_went : {from to : List Token} {x : ColumnName} → IsColumn from to x → Went from to
column_went alone = record { shorter = omega arith; within = λ d h. h }
column_went dotted = record { shorter = omega arith; within = λ d h. h }

pub tame_column : Tame IsColumn
tame_column = tame IsColumn (λ from to x h. column_went h)

literal_went : {from to : List Token} {x : Literal} → IsLiteral from to x → Went from to
literal_went (number a) = record { shorter = omega arith; within = λ d h. h }
literal_went (positive a) = record { shorter = omega arith; within = λ d h. h }
literal_went (negative a) = record { shorter = omega arith; within = λ d h. h }
literal_went text = record { shorter = omega arith; within = λ d h. h }

pub tame_literal : Tame IsLiteral
tame_literal = tame IsLiteral (λ from to x h. literal_went h)

pub operand_shorter : {C : Type 0} (R : Spelling C) → Shorter R → Shorter (IsOperand R)
operand_shorter {C = C} R r = record { by = λ h. shorter_of h }
  where
    shorter_of : {from to : List Token} {x : Operand C} → IsOperand R from to x → length to < length from
    shorter_of (column a) = r.by a
    shorter_of (literal a) = tame_literal.shorter a

operand_went : {C : Type 0} (R : Spelling C) → Tame R → {from to : List Token} {x : Operand C} → IsOperand R from to x → Went from to
operand_went R t (column a) = went R t a
operand_went R t (literal a) = literal_went a

pub tame_operand : {C : Type 0} (R : Spelling C) → Tame R → Tame (IsOperand R)
tame_operand R t = tame (IsOperand R) (λ from to x h. operand_went R t h)

pub name_shrinks : Shrinks (after (s.Mark marks.Comma)) name_at
name_shrinks = shrinks (s.Mark marks.Comma) name_at IsNamed sound_name tame_name

pub column_shrinks : Shrinks (after (s.Mark marks.Comma)) column_at
column_shrinks = shrinks (s.Mark marks.Comma) column_at IsColumn sound_column tame_column

pub literal_shrinks : Shrinks (after (s.Mark marks.Comma)) literal_at
literal_shrinks = shrinks (s.Mark marks.Comma) literal_at IsLiteral sound_literal tame_literal

-- what follows the name, the number or the text that is read
pub name_read : (n : List ℕ) (to : List Token) → name_at (Name n ∷ to) ≡ Some (n, to)
unfolding name_at
name_read n to = refl

pub named_read : {from to : List Token} {x : List ℕ} → IsNamed from to x → name_at from ≡ Some (x, to)
named_read (name {to = to} {n = n}) = name_read n to

pub number_read : (n : ℕ) (to : List Token) → number_at (Number n ∷ to) ≡ Some (n, to)
unfolding number_at
number_read n to = refl

pub column_read : {from to : List Token} {x : ColumnName} → IsColumn from to x → Stops (s.Mark marks.Dot) to → column_at from ≡ Some (x, to)
unfolding column_at
column_read (alone {to = to} {n = n}) h = rw (name_read n to, h) refl
column_read (dotted {to = to} {t = t} {n = n}) h = rw (name_read t (Fixed (s.Mark marks.Dot) ∷ Name n ∷ to), sees (s.Mark marks.Dot) (Name n ∷ to), name_read n to) refl

small_read : (n : ℕ) (to : List Token) → n ≤ 9223372036854775807 → small_at (Number n ∷ to) ≡ Some (pos n, to)
unfolding small_at
small_read n to h = rw (number_read n to, le-leb n 9223372036854775807 h) refl

below_read : (n : ℕ) (to : List Token) → n ≤ 9223372036854775807 → below_at (Number n ∷ to) ≡ Some (neg_ℤ (pos n), to)
unfolding below_at
below_read n to h = rw (number_read n to, le-leb n 9223372036854775807 h) refl

pub literal_read : {from to : List Token} {x : Literal} → IsLiteral from to x → literal_at from ≡ Some (x, to)
unfolding literal_at plain_literal_at after is_fixed
literal_read (number {to = to} {n = n} h) = rw (small_read n to h) refl
literal_read (positive {to = to} {n = n} h) = rw (sees (s.Mark marks.Plus) (Number n ∷ to), small_read n to h) refl
literal_read (negative {to = to} {n = n} h) = rw (stops (s.Mark marks.Minus) (s.Mark marks.Plus) (Number n ∷ to) (differs (s.Mark marks.Minus) (s.Mark marks.Plus) refl), sees (s.Mark marks.Minus) (Number n ∷ to), below_read n to h) refl
literal_read text = refl

literal_next : {from to : List Token} {x : Literal} → IsLiteral from to x → is_literal_next from ≡ true
unfolding is_literal_next
literal_next (number h) = refl
literal_next (positive h) = refl
literal_next (negative h) = refl
literal_next text = refl

-- what R spells begins like no literal, and with neither a NOT nor a parenthesis
pub record Begins {C : Type 0} (R : Spelling C) : Type 0 where
  pub no_literal : {from to : List Token} {x : C} → R from to x → is_literal_next from ≡ false
  pub no_not : {from to : List Token} {x : C} → R from to x → Stops (s.Word words.Not) from
  pub no_open : {from to : List Token} {x : C} → R from to x → Stops (s.Mark marks.Open) from

pub column_begins : {from to : List Token} {x : ColumnName} → IsColumn from to x → (sign : Sign) → Stops sign from
unfolding after is_fixed
column_begins alone sign = refl
column_begins dotted sign = refl

pub column_no_literal : {from to : List Token} {x : ColumnName} → IsColumn from to x → is_literal_next from ≡ false
unfolding is_literal_next
column_no_literal alone = refl
column_no_literal dotted = refl

pub begins_column : Begins IsColumn
begins_column = record { no_literal = λ h. column_no_literal h; no_not = λ h. column_begins h (s.Word words.Not); no_open = λ h. column_begins h (s.Mark marks.Open) }

-- an operand is read where p reads what R spells
pub operand_read : {C : Type 0} (R : Spelling C) → Tame R → Begins R → (p : Parser C) (d : ℕ) → Complete p R d (Stops (s.Mark marks.Dot))
    → {from to : List Token} {x : Operand C} → IsOperand R from to x → HasRoom d from → Stops (s.Mark marks.Dot) to → operand_at p from ≡ Some (x, to)
unfolding operand_at
operand_read R t starts p d h (column {from = from} {to = to} {x = x} a) w n = rw (starts.no_literal a, nonempty_read p from (x, to) (h.by a w n) (t.shorter a)) refl
operand_read R t starts p d h (literal a) w n = rw (literal_next a, literal_read a) refl
