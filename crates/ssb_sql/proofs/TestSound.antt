-- What is read as a test with no parentheses is one.
use Rattle.std.proofs.Common.{◌≡◌, ℕ, zero, suc, ◌<◌, ◌≤◌, Bool, true, false, List, ◌∷◌, length, Some, None, refl, ap, subst, ◌∙◌, arith, inl, inr}
use Rattle.ssb_terms.specs.declared.operator.Op.{Op}
use Rattle.ssb_terms.specs.declared.operator.Op.TheVariants as op
use Rattle.ssb_tokens.specs.declared.token.Token.{Token}
use Rattle.ssb_tokens.specs.declared.token.Token.TheVariants.{Fixed}
use Rattle.ssb_terms.specs.declared.keyword.Keyword.TheVariants as words
use Rattle.ssb_tokens.specs.declared.token.Mark.{Mark}
use Rattle.ssb_tokens.specs.declared.token.Mark.TheVariants as marks
use Rattle.ssb_tokens.specs.declared.token.Sign.TheVariants as s
use Rattle.ssb_terms.specs.declared.literal.Literal.{Literal}
use Rattle.ssb_trees.specs.declared.operand.Operand.TheVariants as o
use Rattle.ssb_trees.specs.declared.condition.Condition.TheVariants as c
use Rattle.ssb_sql.specs.Forms.{Spelling, IsList, IsLiteral, IsOperand}
use Rattle.ssb_sql.specs.Forms.IsOperand.{column, literal}
use Rattle.ssb_sql.specs.Conditions.{mark_of, not_if, IsBare}
use Rattle.ssb_sql.specs.Conditions.IsBare.{compare, between, among, null}
use Rattle.ssb_sql.specs.Room.{HasRoom}
use Rattle.ssb_sql.specs.Steps.{Parser, after, list_at, nonempty_at, parens_at}
use Rattle.ssb_sql.specs.ReadParts.{literal_at, operand_at}
use Rattle.ssb_sql.specs.ReadConditions.{op_of, op_at, limits_at, among_at, range_at, nulled_at, null_at, compared_at, tail_at, bare_at}
use Rattle.ssb_tokens.proofs.ReadingFacts.{bind_some}
use Rattle.ssb_sql.proofs.StepFacts.{some_is, none_some, choose_some, after_is, two_are}
use Rattle.ssb_sql.proofs.Shapes.{Sound, Shorter, Tame, tame_shorter, spells, followed, sound_closed, sound_list, tame_list}
use Rattle.ssb_sql.proofs.PartFacts.{sound_operand, operand_shorter, tame_operand, sound_literal, tame_literal}
use Rattle.ssb_trees.specs.Conditions.{Filter}
use Rattle.ssb_trees.specs.declared.operand.Operand.{Operand}

op_mark : (m : Mark) (y : Op) → op_of m ≡ Some y → m ≡ mark_of y
op_mark marks.Equal y e = ap mark_of (some_is op.Eq y e)
op_mark marks.NotEqual y e = ap mark_of (some_is op.Ne y e)
op_mark marks.Less y e = ap mark_of (some_is op.Lt y e)
op_mark marks.LessEqual y e = ap mark_of (some_is op.Le y e)
op_mark marks.Greater y e = ap mark_of (some_is op.Gt y e)
op_mark marks.GreaterEqual y e = ap mark_of (some_is op.Ge y e)
op_mark _ y e = absurd cc

op_is : (ts : List Token) (l : Op × List Token) → op_at ts ≡ Some l → ts ≡ Fixed (s.Mark (mark_of l.0)) ∷ l.1
unfolding op_at
op_is (Fixed (s.Mark m) ∷ ts) l e =
    let f = bind_some (op_of m) (λ y. Some (y, ts)) l e in
    ap (λ z. Fixed (s.Mark z) ∷ ts) (op_mark m f.0 f.1) ∙ ap (λ z. Fixed (s.Mark (mark_of z.0)) ∷ z.1) (some_is (f.0, ts) l f.2)
op_is _ l e = absurd cc

-- the literals behind IN
among_is : (ts : List Token) (x : List Literal × List Token) → among_at ts ≡ Some x → (mid : List Token) × (ts ≡ Fixed (s.Word words.In) ∷ Fixed (s.Mark marks.Open) ∷ mid) × IsList IsLiteral mid (Fixed (s.Mark marks.Close) ∷ x.1) x.0
unfolding among_at parens_at
among_is ts x e =
    let g = bind_some (after (s.Word words.In) ts) _ x e in
    let f = bind_some (after (s.Mark marks.Open) g.0) _ x g.2 in
    (f.0, two_are (s.Word words.In) (s.Mark marks.Open) ts g.0 f.0 g.1 f.1, sound_closed (list_at literal_at) (IsList IsLiteral) (sound_list literal_at IsLiteral sound_literal) f.0 x f.2)

-- what p reads, where that is one token at least, is in R
module _ {C : Type 0} (R : Spelling C) (p : Parser C) (reads : Sound (nonempty_at p) R) where
  operands : Sound (operand_at p) (IsOperand R)
  operands = sound_operand R p reads

  -- the limits, and the AND between them
  limits_is : (ts : List Token) (x : (Operand C × Operand C) × List Token) → limits_at p ts ≡ Some x → (mid : List Token) × IsOperand R ts (Fixed (s.Word words.And) ∷ mid) x.0.0 × IsOperand R mid x.1 x.0.1
  unfolding limits_at
  limits_is ts x e =
      let f = bind_some (operand_at p ts) _ x e in
      let g = bind_some (after (s.Word words.And) f.0.1) _ x f.2 in
      let q = bind_some (operand_at p g.0) _ x g.2 in
      let same = some_is ((f.0.0, q.0.0), q.0.1) x q.2 in
      subst (λ z. (mid : List Token) × IsOperand R ts (Fixed (s.Word words.And) ∷ mid) z.0.0 × IsOperand R mid z.1 z.0.1) same
      (g.0, followed (IsOperand R) (s.Word words.And) ts f.0.1 g.0 f.0.0 g.1 (operands.by ts f.0 f.1), operands.by g.0 q.0 q.1)

  -- the operand's own end, moved on
  ends_at : (ts mid us : List Token) (x : Operand C) → mid ≡ us → IsOperand R ts mid x → IsOperand R ts us x
  ends_at ts mid us x e h = subst (λ z. IsOperand R ts z x) e h

  -- BETWEEN or IN, behind a NOT if there is one
  range_sound : (negated : Bool) (ts mid rest : List Token) (y : Operand C) (x : Filter C × List Token) → mid ≡ not_if negated rest → IsOperand R ts mid y → range_at p negated y rest ≡ Some x → IsBare R ts x.1 x.0
  unfolding range_at
  range_sound negated ts mid rest y x n h e =
      elim (choose_some (after (s.Word words.Between) rest) _ _ (Some x) e) as (λ _. IsBare R ts x.1 x.0) [
        | inl g ↦
            let f = bind_some (limits_at p g.0) _ x g.2 in
            let q = limits_is g.0 f.0 f.1 in
            spells (IsBare R) ts f.0.1 (c.Between y f.0.0.0 f.0.0.1 negated) x (between negated (ends_at ts mid (not_if negated (Fixed (s.Word words.Between) ∷ g.0)) y (n ∙ ap (not_if negated) (after_is (s.Word words.Between) rest g.0 g.1)) h) q.1 q.2) f.2
        | inr b ↦
            let f = bind_some (among_at rest) _ x b.1 in
            let q = among_is rest f.0 f.1 in
            spells (IsBare R) ts f.0.1 (c.In y f.0.0 negated) x (among negated (ends_at ts mid (not_if negated (Fixed (s.Word words.In) ∷ Fixed (s.Mark marks.Open) ∷ q.0)) y (n ∙ ap (not_if negated) q.1) h) q.2) f.2
      ]

  -- a column as an operand is a column
  column_back : {from to : List Token} {y : Operand C} → IsOperand R from to y → (z : C) → y ≡ o.Column z → R from to z
  column_back (column {from = from} {to = to} {x = x} a) z e = let same : x ≡ z = cc in subst (λ w. R from to w) same a
  column_back (literal a) z e = absurd cc

  -- NULL, behind a NOT if there is one; a literal is no column
  nulled_sound : (negated : Bool) (ts mid rest : List Token) (y : Operand C) (x : Filter C × List Token) → mid ≡ Fixed (s.Word words.Is) ∷ not_if negated rest → IsOperand R ts mid y → nulled_at negated y rest ≡ Some x → IsBare R ts x.1 x.0
  unfolding nulled_at
  nulled_sound negated ts mid rest (o.Literal l) x n h e = let f = bind_some (after (s.Word words.Null) rest) (λ to. None) x e in absurd (none_some x f.2)
  nulled_sound negated ts mid rest (o.Column z) x n h e =
      let f = bind_some (after (s.Word words.Null) rest) _ x e in
      let m : mid ≡ Fixed (s.Word words.Is) ∷ not_if negated (Fixed (s.Word words.Null) ∷ f.0) = n ∙ ap (λ w. Fixed (s.Word words.Is) ∷ not_if negated w) (after_is (s.Word words.Null) rest f.0 f.1) in
      spells (IsBare R) ts f.0 (c.IsNull (o.Column z) negated) x (null negated (subst (λ w. R ts w z) m (column_back h z refl))) f.2

  null_sound : (ts mid rest : List Token) (y : Operand C) (x : Filter C × List Token) → mid ≡ Fixed (s.Word words.Is) ∷ rest → IsOperand R ts mid y → null_at y rest ≡ Some x → IsBare R ts x.1 x.0
  unfolding null_at
  null_sound ts mid rest y x n h e =
      elim (choose_some (after (s.Word words.Not) rest) _ _ (Some x) e) as (λ _. IsBare R ts x.1 x.0) [
        | inl g ↦ nulled_sound true ts mid g.0 y x (n ∙ ap (λ w. Fixed (s.Word words.Is) ∷ w) (after_is (s.Word words.Not) rest g.0 g.1)) h g.2
        | inr b ↦ nulled_sound false ts mid rest y x n h b.1
      ]

  compared_sound : (ts mid : List Token) (y : Operand C) (x : Filter C × List Token) → IsOperand R ts mid y → compared_at p y mid ≡ Some x → IsBare R ts x.1 x.0
  unfolding compared_at
  compared_sound ts mid y x h e =
      elim (choose_some (op_at mid) _ _ (Some x) e) as (λ _. IsBare R ts x.1 x.0) [
        | inl g ↦
            let f = bind_some (operand_at p g.0.1) _ x g.2 in
            spells (IsBare R) ts f.0.1 (c.Compare g.0.0 y f.0.0) x (compare {op = g.0.0} (ends_at ts mid (Fixed (s.Mark (mark_of g.0.0)) ∷ g.0.1) y (op_is mid g.0 g.1) h) (operands.by g.0.1 f.0 f.1)) f.2
        | inr b ↦ range_sound false ts mid mid y x refl h b.1
      ]

  tail_sound : (ts mid : List Token) (y : Operand C) (x : Filter C × List Token) → IsOperand R ts mid y → tail_at p y mid ≡ Some x → IsBare R ts x.1 x.0
  unfolding tail_at
  tail_sound ts mid y x h e =
      elim (choose_some (after (s.Word words.Not) mid) _ _ (Some x) e) as (λ _. IsBare R ts x.1 x.0) [
        | inl g ↦ range_sound true ts mid g.0 y x (after_is (s.Word words.Not) mid g.0 g.1) h g.2
        | inr b ↦
            elim (choose_some (after (s.Word words.Is) mid) _ _ (Some x) b.1) as (λ _. IsBare R ts x.1 x.0) [
              | inl g ↦ null_sound ts mid g.0 y x (after_is (s.Word words.Is) mid g.0 g.1) h g.2
              | inr g ↦ compared_sound ts mid y x h g.1
            ]
      ]

  bare_sound : (ts : List Token) (x : Filter C × List Token) → bare_at p ts ≡ Some x → IsBare R ts x.1 x.0
  unfolding bare_at
  bare_sound ts x e =
      let f = bind_some (operand_at p ts) _ x e in
      tail_sound ts f.0.1 f.0.0 x (operands.by ts f.0 f.1) f.2

  pub sound_bare : Sound (bare_at p) (IsBare R)
  sound_bare = record { by = bare_sound }

tame_literals : Tame (IsList IsLiteral)
tame_literals = tame_list IsLiteral tame_literal

-- with a NOT in front there are no fewer tokens
not_longer : (negated : Bool) (ts : List Token) → length ts ≤ length (not_if negated ts)
not_longer true ts = omega arith
not_longer false ts = omega arith

module _ {C : Type 0} (R : Spelling C) (r : Shorter R) where
  operand_less : Shorter (IsOperand R)
  operand_less = operand_shorter R r

  less : {from to : List Token} {x : Filter C} → IsBare R from to x → length to < length from
  less (compare a b) = let p = operand_less.by a in let q = operand_less.by b in omega arith
  less (between negated {low = low} a b d) = let p = operand_less.by a in let q = operand_less.by b in let k = operand_less.by d in let n = not_longer negated (Fixed (s.Word words.Between) ∷ low) in omega arith
  less (among negated {mid = mid} a b) = let p = operand_less.by a in let q = tame_literals.shorter b in let n = not_longer negated (Fixed (s.Word words.In) ∷ Fixed (s.Mark marks.Open) ∷ mid) in omega arith
  less (null negated {to = to} a) = let p = r.by a in let n = not_longer negated (Fixed (s.Word words.Null) ∷ to) in omega arith

  pub bare_shorter : Shorter (IsBare R)
  bare_shorter = record { by = λ h. less h }

-- a NOT is no parenthesis
pub not_within : (negated : Bool) (ts : List Token) (d : ℕ) → HasRoom d (not_if negated ts) → HasRoom d ts
not_within true ts d h = h
not_within false ts d h = h

-- an operator is no parenthesis
pub mark_within : (y : Op) (ts : List Token) (d : ℕ) → HasRoom d (Fixed (s.Mark (mark_of y)) ∷ ts) → HasRoom d ts
mark_within op.Eq ts d h = h
mark_within op.Ne ts d h = h
mark_within op.Lt ts d h = h
mark_within op.Le ts d h = h
mark_within op.Gt ts d h = h
mark_within op.Ge ts d h = h

-- literals in parentheses, the first of which is read
members_within : (mid to : List Token) (ys : List Literal) → IsList IsLiteral mid (Fixed (s.Mark marks.Close) ∷ to) ys → (d : ℕ) → HasRoom d (Fixed (s.Mark marks.Open) ∷ mid) → HasRoom d to
members_within mid to ys b zero h = absurd h
members_within mid to ys b (suc d) h = tame_literals.within b d h

module _ {C : Type 0} (R : Spelling C) (t : Tame R) where
  operand_tame : Tame (IsOperand R)
  operand_tame = tame_operand R t

  bare_within : {from to : List Token} {x : Filter C} → IsBare R from to x → (d : ℕ) → HasRoom d from → HasRoom d to
  bare_within (compare {mid = mid} {op = y} a b) d h = operand_tame.within b d (mark_within y mid d (operand_tame.within a d h))
  bare_within (between negated {low = low} a b g) d h = operand_tame.within g d (operand_tame.within b d (not_within negated (Fixed (s.Word words.Between) ∷ low) d (operand_tame.within a d h)))
  bare_within (among negated {mid = mid} {to = to} {ys = ys} a b) d h = members_within mid to ys b d (not_within negated (Fixed (s.Word words.In) ∷ Fixed (s.Mark marks.Open) ∷ mid) d (operand_tame.within a d h))
  bare_within (null negated {to = to} a) d h = not_within negated (Fixed (s.Word words.Null) ∷ to) d (t.within a d h)

  pub tame_bare : Tame (IsBare R)
  tame_bare = record { shorter = λ h. (bare_shorter R (tame_shorter R t)).by h; within = λ h d w. bare_within h d w }
