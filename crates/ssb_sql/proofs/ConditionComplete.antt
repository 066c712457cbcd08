-- Each condition of the grammar is read.
use Rattle.std.proofs.Common.{◌≡◌, ℕ, zero, suc, ◌≤◌, Bool, true, false, List, [], ◌∷◌, length, Option, Some, None, refl, arith}
use Rattle.ssb_terms.specs.declared.operator.Op.{Op}
use Rattle.ssb_terms.specs.declared.operator.Op.TheVariants as op
use Rattle.ssb_tokens.specs.declared.token.Token.{Token}
use Rattle.ssb_tokens.specs.declared.token.Token.TheVariants.{Fixed, Number}
use Rattle.ssb_tokens.specs.declared.token.Sign.{Sign}
use Rattle.ssb_terms.specs.declared.keyword.Keyword.{Keyword}
use Rattle.ssb_terms.specs.declared.keyword.Keyword.TheVariants as words
use Rattle.ssb_tokens.specs.declared.token.Mark.TheVariants as marks
use Rattle.ssb_tokens.specs.declared.token.Sign.TheVariants as s
use Rattle.ssb_terms.specs.declared.literal.Literal.{Literal}
use Rattle.ssb_trees.specs.declared.operand.Operand.TheVariants as o
use Rattle.ssb_trees.specs.declared.condition.Condition.TheVariants as c
use Rattle.ssb_sql.specs.Forms.{Spelling, IsList, IsLiteral, IsOperand}
use Rattle.ssb_sql.specs.Forms.IsLiteral.{number, positive, negative, text}
use Rattle.ssb_sql.specs.Forms.IsOperand.{column, literal}
use Rattle.ssb_sql.specs.Conditions.{mark_of, not_if, IsBare, IsCond, IsOrs, IsConj, IsAnds, IsNeg, IsTest, or_chain, and_chain}
use Rattle.ssb_sql.specs.Conditions.IsBare.{compare, between, among, null}
use Rattle.ssb_sql.specs.Conditions.IsCond.{cond}
use Rattle.ssb_sql.specs.Conditions.IsOrs.{no_or, or}
use Rattle.ssb_sql.specs.Conditions.IsConj.{conj}
use Rattle.ssb_sql.specs.Conditions.IsAnds.{no_and, and}
use Rattle.ssb_sql.specs.Conditions.IsNeg.{plain, not}
use Rattle.ssb_sql.specs.Conditions.IsTest.{parens, bare}
use Rattle.ssb_sql.specs.Room.{HasRoom}
use Rattle.ssb_sql.specs.Steps.{Parser, after, is_fixed, is_sign, chain_at, more_at, list_at, parens_at, chained_at}
use Rattle.ssb_sql.specs.ReadParts.{literal_at, operand_at}
use Rattle.ssb_sql.specs.ReadConditions.{op_at, limits_at, members_at, among_at, range_at, nulled_at, null_at, compared_at, tail_at, bare_at, test_at, neg_at, conj_at, cond_at}
use Rattle.ssb_sql.proofs.StepFacts.{Stops, stops, differs, sees}
use Rattle.ssb_sql.proofs.Shapes.{Tame, Complete, GoesOn, turn_done, sign_goes, more_goes, closed_read, parens_read, open_read, list_read}
use Rattle.ssb_sql.proofs.PartFacts.{Begins, tame_literal, tame_operand, literal_read, operand_read}
use Rattle.ssb_sql.proofs.Depth.{all_within}
use Rattle.ssb_sql.proofs.TestSound.{mark_within, not_within}
use Rattle.ssb_sql.proofs.ConditionSound.{tame_conj, tame_neg}
use Rattle.ssb_trees.specs.Conditions.{Filter}
use Rattle.ssb_trees.specs.declared.operand.Operand.{Operand}

-- what may follow a condition
pub record EndsCond (to : List Token) : Type 0 where
  pub dot : Stops (s.Mark marks.Dot) to
  pub and : Stops (s.Word words.And) to
  pub or : Stops (s.Word words.Or) to

close_ends : (to : List Token) → EndsCond (Fixed (s.Mark marks.Close) ∷ to)
close_ends to = record {
  dot = stops (s.Mark marks.Close) (s.Mark marks.Dot) to (differs (s.Mark marks.Close) (s.Mark marks.Dot) refl);
  and = stops (s.Mark marks.Close) (s.Word words.And) to (differs (s.Mark marks.Close) (s.Word words.And) refl);
  or = stops (s.Mark marks.Close) (s.Word words.Or) to (differs (s.Mark marks.Close) (s.Word words.Or) refl);
}

-- how things begin
literal_begins : {from to : List Token} {x : Literal} → IsLiteral from to x → (sign : Sign) → is_sign (s.Mark marks.Plus) sign ≡ false → is_sign (s.Mark marks.Minus) sign ≡ false → Stops sign from
unfolding after is_fixed
literal_begins (number h) sign p m = refl
literal_begins (positive {to = to} {n = n} h) sign p m = stops (s.Mark marks.Plus) sign (Number n ∷ to) p
literal_begins (negative {to = to} {n = n} h) sign p m = stops (s.Mark marks.Minus) sign (Number n ∷ to) m
literal_begins text sign p m = refl

module _ {C : Type 0} (R : Spelling C) (sign : Sign) (starts : (from to : List Token) (x : C) → R from to x → Stops sign from) (plus : is_sign (s.Mark marks.Plus) sign ≡ false) (minus : is_sign (s.Mark marks.Minus) sign ≡ false) where
  operand_begins : {from to : List Token} {x : Operand C} → IsOperand R from to x → Stops sign from
  operand_begins (column a) = starts _ _ _ a
  operand_begins (literal a) = literal_begins a sign plus minus

  bare_begins : {from to : List Token} {x : Filter C} → IsBare R from to x → Stops sign from
  bare_begins (compare a b) = operand_begins a
  bare_begins (between negated a b g) = operand_begins a
  bare_begins (among negated a b) = operand_begins a
  bare_begins (null negated a) = starts _ _ _ a

bare_no_not : {C : Type 0} (R : Spelling C) → Begins R → {from to : List Token} {x : Filter C} → IsBare R from to x → Stops (s.Word words.Not) from
bare_no_not R z a = bare_begins R (s.Word words.Not) (λ from to x h. z.no_not h) (differs (s.Mark marks.Plus) (s.Word words.Not) refl) (differs (s.Mark marks.Minus) (s.Word words.Not) refl) a

bare_no_open : {C : Type 0} (R : Spelling C) → Begins R → {from to : List Token} {x : Filter C} → IsBare R from to x → Stops (s.Mark marks.Open) from
bare_no_open R z a = bare_begins R (s.Mark marks.Open) (λ from to x h. z.no_open h) (differs (s.Mark marks.Plus) (s.Mark marks.Open) refl) (differs (s.Mark marks.Minus) (s.Mark marks.Open) refl) a

test_begins : {C : Type 0} (R : Spelling C) → Begins R → {from to : List Token} {x : Filter C} → IsTest R from to x → Stops (s.Word words.Not) from
test_begins R z (parens {from = from} a) = stops (s.Mark marks.Open) (s.Word words.Not) from (differs (s.Mark marks.Open) (s.Word words.Not) refl)
test_begins R z (bare a) = bare_no_not R z a

-- the parts of a test
no_dot : (sign : Sign) (ts : List Token) → is_sign sign (s.Mark marks.Dot) ≡ false → Stops (s.Mark marks.Dot) (Fixed sign ∷ ts)
no_dot sign ts h = stops sign (s.Mark marks.Dot) ts h

op_read : (y : Op) (ts : List Token) → op_at (Fixed (s.Mark (mark_of y)) ∷ ts) ≡ Some (y, ts)
unfolding op_at
op_read op.Eq ts = refl
op_read op.Ne ts = refl
op_read op.Lt ts = refl
op_read op.Le ts = refl
op_read op.Gt ts = refl
op_read op.Ge ts = refl

-- an operator is neither NOT nor IS, and no dot
mark_differs : (y : Op) (sign : Sign) → is_sign (s.Mark marks.Equal) sign ≡ false → is_sign (s.Mark marks.NotEqual) sign ≡ false → is_sign (s.Mark marks.Less) sign ≡ false → is_sign (s.Mark marks.LessEqual) sign ≡ false
    → is_sign (s.Mark marks.Greater) sign ≡ false → is_sign (s.Mark marks.GreaterEqual) sign ≡ false → is_sign (s.Mark (mark_of y)) sign ≡ false
mark_differs op.Eq sign a b d e f g = a
mark_differs op.Ne sign a b d e f g = b
mark_differs op.Lt sign a b d e f g = d
mark_differs op.Le sign a b d e f g = e
mark_differs op.Gt sign a b d e f g = f
mark_differs op.Ge sign a b d e f g = g

mark_is_no : (y : Op) → (is_sign (s.Mark (mark_of y)) (s.Mark marks.Dot) ≡ false) × (is_sign (s.Mark (mark_of y)) (s.Word words.Not) ≡ false) × (is_sign (s.Mark (mark_of y)) (s.Word words.Is) ≡ false)
unfolding is_sign
mark_is_no y = (mark_differs y (s.Mark marks.Dot) refl refl refl refl refl refl, mark_differs y (s.Word words.Not) refl refl refl refl refl refl, mark_differs y (s.Word words.Is) refl refl refl refl refl refl)

any_end : GoesOn (λ to. Unit {0})
any_end = record { comma = λ ts. tt }

complete_literal : (d : ℕ) → Complete literal_at IsLiteral d (λ to. Unit {0})
complete_literal d = record { by = λ h w f. literal_read h }

members_goes : {mid to : List Token} {ys : List Literal} → IsList IsLiteral mid (Fixed (s.Mark marks.Close) ∷ to) ys → members_at (Fixed (s.Mark marks.Open) ∷ mid) ≡ Some (ys, to)
unfolding parens_at
members_goes {mid = mid} {to = to} {ys = ys} h =
    let d = length mid in
    rw (sees (s.Mark marks.Open) mid) (closed_read (list_at literal_at) mid to ys
    (list_read literal_at IsLiteral tame_literal d (λ to. Unit {0}) any_end (complete_literal d) h (all_within mid d (omega arith)) tt (stops (s.Mark marks.Close) (s.Mark marks.Comma) to (differs (s.Mark marks.Close) (s.Mark marks.Comma) refl))))

-- a word is no operator
word_stops : (word : Keyword) (ts : List Token) → op_at (Fixed (s.Word word) ∷ ts) ≡ None
unfolding op_at
word_stops word ts = refl

module _ {C : Type 0} (p : Parser C) where
  bare_goes : (ts mid : List Token) (y : Operand C) (r : Option (Filter C × List Token)) → operand_at p ts ≡ Some (y, mid) → tail_at p y mid ≡ r → bare_at p ts ≡ r
  unfolding bare_at
  bare_goes ts mid y r e f = rw e f

  between_goes : (negated : Bool) (x : Operand C) (low to : List Token) (l : Operand C × Operand C) → limits_at p low ≡ Some (l, to) → range_at p negated x (Fixed (s.Word words.Between) ∷ low) ≡ Some (c.Between x l.0 l.1 negated, to)
  unfolding range_at
  between_goes negated x low to l e = rw (sees (s.Word words.Between) low, e) refl

  in_goes : (negated : Bool) (x : Operand C) (rest to : List Token) (ys : List Literal) → members_at rest ≡ Some (ys, to) → range_at p negated x (Fixed (s.Word words.In) ∷ rest) ≡ Some (c.In x ys negated, to)
  unfolding range_at among_at
  in_goes negated x rest to ys e = rw (stops (s.Word words.In) (s.Word words.Between) rest (differs (s.Word words.In) (s.Word words.Between) refl), sees (s.Word words.In) rest, e) refl

  -- BETWEEN or IN, behind a NOT if there is one
  range_goes : (negated : Bool) (found : Sign) (x : Operand C) (ts : List Token) (r : Option (Filter C × List Token)) → is_sign found (s.Word words.Not) ≡ false → is_sign found (s.Word words.Is) ≡ false → op_at (Fixed found ∷ ts) ≡ None
      → range_at p negated x (Fixed found ∷ ts) ≡ r → tail_at p x (not_if negated (Fixed found ∷ ts)) ≡ r
  unfolding tail_at compared_at
  range_goes true found x ts r n i h e = rw (sees (s.Word words.Not) (Fixed found ∷ ts)) e
  range_goes false found x ts r n i h e = rw (stops found (s.Word words.Not) ts n, stops found (s.Word words.Is) ts i, h) e

  compared_goes : (y : Op) (x z : Operand C) (ts to : List Token) → operand_at p ts ≡ Some (z, to) → tail_at p x (Fixed (s.Mark (mark_of y)) ∷ ts) ≡ Some (c.Compare y x z, to)
  unfolding tail_at compared_at
  compared_goes y x z ts to e =
      let no = mark_is_no y in
      rw (stops (s.Mark (mark_of y)) (s.Word words.Not) ts no.1, stops (s.Mark (mark_of y)) (s.Word words.Is) ts no.2, op_read y ts, e) refl

  null_goes : (negated : Bool) (x : C) (to : List Token) → tail_at p (o.Column x) (Fixed (s.Word words.Is) ∷ not_if negated (Fixed (s.Word words.Null) ∷ to)) ≡ Some (c.IsNull (o.Column x) negated, to)
  unfolding tail_at null_at nulled_at
  null_goes true x to =
      rw (stops (s.Word words.Is) (s.Word words.Not) (Fixed (s.Word words.Not) ∷ Fixed (s.Word words.Null) ∷ to) (differs (s.Word words.Is) (s.Word words.Not) refl), sees (s.Word words.Is) (Fixed (s.Word words.Not) ∷ Fixed (s.Word words.Null) ∷ to), sees (s.Word words.Not) (Fixed (s.Word words.Null) ∷ to), sees (s.Word words.Null) to) refl
  null_goes false x to =
      rw (stops (s.Word words.Is) (s.Word words.Not) (Fixed (s.Word words.Null) ∷ to) (differs (s.Word words.Is) (s.Word words.Not) refl), sees (s.Word words.Is) (Fixed (s.Word words.Null) ∷ to), stops (s.Word words.Null) (s.Word words.Not) to (differs (s.Word words.Null) (s.Word words.Not) refl), sees (s.Word words.Null) to) refl

-- p reads what R spells
module _ {C : Type 0} (R : Spelling C) (t : Tame R) (z : Begins R) (p : Parser C) (d : ℕ) (complete : Complete p R d (Stops (s.Mark marks.Dot))) where
  operands : Tame (IsOperand R)
  operands = tame_operand R t

  -- an operand, and the sign behind it
  one_read : {from mid : List Token} {x : Operand C} (sign : Sign) → is_sign sign (s.Mark marks.Dot) ≡ false → IsOperand R from (Fixed sign ∷ mid) x → HasRoom d from → operand_at p from ≡ Some (x, Fixed sign ∷ mid)
  one_read {mid = mid} sign undotted a w = operand_read R t z p d complete a w (no_dot sign mid undotted)

  -- an operand, and the sign behind it and behind a NOT if there is one
  range_read : {from : List Token} {x : Operand C} (negated : Bool) (found : Sign) (mid : List Token) → is_sign found (s.Mark marks.Dot) ≡ false → IsOperand R from (not_if negated (Fixed found ∷ mid)) x → HasRoom d from → operand_at p from ≡ Some (x, not_if negated (Fixed found ∷ mid))
  range_read true found mid undotted a w = one_read (s.Word words.Not) (differs (s.Word words.Not) (s.Mark marks.Dot) refl) a w
  range_read false found mid undotted a w = one_read found undotted a w

  limits_goes : {low high to : List Token} {x y : Operand C} → IsOperand R low (Fixed (s.Word words.And) ∷ high) x → IsOperand R high to y → HasRoom d low → Stops (s.Mark marks.Dot) to → limits_at p low ≡ Some ((x, y), to)
  unfolding limits_at
  limits_goes {high = high} a b w n = rw (one_read (s.Word words.And) (differs (s.Word words.And) (s.Mark marks.Dot) refl) a w, sees (s.Word words.And) high, operand_read R t z p d complete b (operands.within a d w) n) refl

  bare_read : {from to : List Token} {x : Filter C} → IsBare R from to x → HasRoom d from → Stops (s.Mark marks.Dot) to → bare_at p from ≡ Some (x, to)
  bare_read (compare {from = from} {mid = mid} {to = to} {op = o} {x = x} {y = y} a b) w n =
      let no = mark_is_no o in
      bare_goes p from (Fixed (s.Mark (mark_of o)) ∷ mid) x (Some (c.Compare o x y, to)) (one_read (s.Mark (mark_of o)) no.0 a w) (compared_goes p o x y mid to (operand_read R t z p d complete b (mark_within o mid d (operands.within a d w)) n))
  bare_read (between negated {from = from} {low = low} {to = to} {x = x} {y = y} {z = k} a b g) w n =
      bare_goes p from (not_if negated (Fixed (s.Word words.Between) ∷ low)) x (Some (c.Between x y k negated, to)) (range_read negated (s.Word words.Between) low (differs (s.Word words.Between) (s.Mark marks.Dot) refl) a w)
      (range_goes p negated (s.Word words.Between) x low (Some (c.Between x y k negated, to)) (differs (s.Word words.Between) (s.Word words.Not) refl) (differs (s.Word words.Between) (s.Word words.Is) refl) (word_stops words.Between low) (between_goes p negated x low to (y, k) (limits_goes b g (not_within negated (Fixed (s.Word words.Between) ∷ low) d (operands.within a d w)) n)))
  bare_read (among negated {from = from} {mid = mid} {to = to} {x = x} {ys = ys} a b) w n =
      bare_goes p from (not_if negated (Fixed (s.Word words.In) ∷ Fixed (s.Mark marks.Open) ∷ mid)) x (Some (c.In x ys negated, to)) (range_read negated (s.Word words.In) (Fixed (s.Mark marks.Open) ∷ mid) (differs (s.Word words.In) (s.Mark marks.Dot) refl) a w)
      (range_goes p negated (s.Word words.In) x (Fixed (s.Mark marks.Open) ∷ mid) (Some (c.In x ys negated, to)) (differs (s.Word words.In) (s.Word words.Not) refl) (differs (s.Word words.In) (s.Word words.Is) refl) (word_stops words.In (Fixed (s.Mark marks.Open) ∷ mid)) (in_goes p negated x (Fixed (s.Mark marks.Open) ∷ mid) to ys (members_goes b)))
  bare_read (null negated {from = from} {to = to} {x = x} a) w n =
      bare_goes p from (Fixed (s.Word words.Is) ∷ not_if negated (Fixed (s.Word words.Null) ∷ to)) (o.Column x) (Some (c.IsNull (o.Column x) negated, to)) (one_read (s.Word words.Is) (differs (s.Word words.Is) (s.Mark marks.Dot) refl) (column a) w) (null_goes p negated x to)

-- one reader from another
plain_goes : {C : Type 0} (p : Parser C) (inner : Parser (Filter C)) (ts to : List Token) (x : Filter C) → Stops (s.Word words.Not) ts → test_at p inner ts ≡ Some (x, to) → neg_at p inner ts ≡ Some (x, to)
unfolding neg_at
plain_goes p inner ts to x h e = rw h e

not_goes : {C : Type 0} (p : Parser C) (inner : Parser (Filter C)) (ts to : List Token) (x : Filter C) → test_at p inner ts ≡ Some (x, to) → neg_at p inner (Fixed (s.Word words.Not) ∷ ts) ≡ Some (c.Not x, to)
unfolding neg_at
not_goes p inner ts to x e = rw (sees (s.Word words.Not) ts, e) refl

conj_goes : {C : Type 0} (p : Parser C) (inner : Parser (Filter C)) (ts mid to : List Token) (x : Filter C) (xs : List (Filter C)) → neg_at p inner ts ≡ Some (x, mid) → more_at (after (s.Word words.And)) (neg_at p inner) (x ∷ []) mid ≡ Some (x ∷ xs, to) → conj_at p inner ts ≡ Some (and_chain (x ∷ xs), to)
unfolding conj_at chained_at
conj_goes p inner ts mid to x xs e f = rw (e, f) refl

disj_goes : {C : Type 0} (p : ℕ → Parser C) (d : ℕ) (ts mid to : List Token) (x : Filter C) (xs : List (Filter C)) → conj_at (p d) (cond_at p d) ts ≡ Some (x, mid) → more_at (after (s.Word words.Or)) (conj_at (p d) (cond_at p d)) (x ∷ []) mid ≡ Some (x ∷ xs, to) → cond_at p (suc d) ts ≡ Some (or_chain (x ∷ xs), to)
unfolding cond_at chained_at
disj_goes p d ts mid to x xs e f = rw (e, f) refl

module _ {C : Type 0} (R : Spelling C) where
  ors_end : {from to : List Token} {xs : List (Filter C)} → IsOrs R from to xs → (sign : Sign) → is_sign (s.Word words.Or) sign ≡ false → Stops sign to → Stops sign from
  ors_end no_or sign p h = h
  ors_end (or {from = from} a b) sign p h = stops (s.Word words.Or) sign from p

  ands_end : {from to : List Token} {xs : List (Filter C)} → IsAnds R from to xs → (sign : Sign) → is_sign (s.Word words.And) sign ≡ false → Stops sign to → Stops sign from
  ands_end no_and sign p h = h
  ands_end (and {from = from} a b) sign p h = stops (s.Word words.And) sign from p

  ors_dot : {from to : List Token} {xs : List (Filter C)} → IsOrs R from to xs → EndsCond to → Stops (s.Mark marks.Dot) from
  ors_dot b z = ors_end b (s.Mark marks.Dot) (differs (s.Word words.Or) (s.Mark marks.Dot) refl) z.dot

  ors_and : {from to : List Token} {xs : List (Filter C)} → IsOrs R from to xs → EndsCond to → Stops (s.Word words.And) from
  ors_and b z = ors_end b (s.Word words.And) (differs (s.Word words.Or) (s.Word words.And) refl) z.and

  ands_dot : {from to : List Token} {xs : List (Filter C)} → IsAnds R from to xs → Stops (s.Mark marks.Dot) to → Stops (s.Mark marks.Dot) from
  ands_dot b n = ands_end b (s.Mark marks.Dot) (differs (s.Word words.And) (s.Mark marks.Dot) refl) n

-- p reads what R spells, at each depth
module _ {C : Type 0} (R : Spelling C) (t : Tame R) (z : Begins R) (p : ℕ → Parser C) (complete : (d : ℕ) → Complete (p d) R d (Stops (s.Mark marks.Dot))) where
  mutual
    pub cond_read : {from to : List Token} {x : Filter C} → IsCond R from to x → (d : ℕ) → HasRoom d from → EndsCond to → cond_at p (suc d) from ≡ Some (x, to)
    cond_read (cond {from = from} {mid = mid} {to = to} {x = x} {xs = xs} a b) d h e =
        disj_goes p d from mid to x xs (conj_read a d h (ors_dot R b e) (ors_and R b e))
        (more_goes (after (s.Word words.Or)) (conj_at (p d) (cond_at p d)) (x ∷ []) xs mid to (ors_read b d (length mid) ((tame_conj R t).within a d h) (omega arith) e))

    ors_read : {from to : List Token} {xs : List (Filter C)} → IsOrs R from to xs → (d k : ℕ) → HasRoom d from → length from ≤ k → EndsCond to → chain_at (after (s.Word words.Or)) (conj_at (p d) (cond_at p d)) k from ≡ Some (xs, to)
    ors_read (no_or {to = to}) d k h l e = turn_done (after (s.Word words.Or)) (conj_at (p d) (cond_at p d)) k to e.or
    ors_read (or a b) d zero h l e = absurd (omega arith)
    ors_read (or {from = from} {mid = mid} {to = to} {x = x} {xs = xs} a b) d (suc k) h l e =
        let lt = (tame_conj R t).shorter a in
        sign_goes (s.Word words.Or) (conj_at (p d) (cond_at p d)) k from mid to x xs (conj_read a d h (ors_dot R b e) (ors_and R b e)) (ors_read b d k ((tame_conj R t).within a d h) (omega arith) e)

    conj_read : {from to : List Token} {x : Filter C} → IsConj R from to x → (d : ℕ) → HasRoom d from → Stops (s.Mark marks.Dot) to → Stops (s.Word words.And) to → conj_at (p d) (cond_at p d) from ≡ Some (x, to)
    conj_read (conj {from = from} {mid = mid} {to = to} {x = x} {xs = xs} a b) d h n m =
        conj_goes (p d) (cond_at p d) from mid to x xs (neg_read a d h (ands_dot R b n))
        (more_goes (after (s.Word words.And)) (neg_at (p d) (cond_at p d)) (x ∷ []) xs mid to (ands_read b d (length mid) ((tame_neg R t).within a d h) (omega arith) n m))

    ands_read : {from to : List Token} {xs : List (Filter C)} → IsAnds R from to xs → (d k : ℕ) → HasRoom d from → length from ≤ k → Stops (s.Mark marks.Dot) to → Stops (s.Word words.And) to → chain_at (after (s.Word words.And)) (neg_at (p d) (cond_at p d)) k from ≡ Some (xs, to)
    ands_read (no_and {to = to}) d k h l n m = turn_done (after (s.Word words.And)) (neg_at (p d) (cond_at p d)) k to m
    ands_read (and a b) d zero h l n m = absurd (omega arith)
    ands_read (and {from = from} {mid = mid} {to = to} {x = x} {xs = xs} a b) d (suc k) h l n m =
        let lt = (tame_neg R t).shorter a in
        sign_goes (s.Word words.And) (neg_at (p d) (cond_at p d)) k from mid to x xs (neg_read a d h (ands_dot R b n)) (ands_read b d k ((tame_neg R t).within a d h) (omega arith) n m)

    neg_read : {from to : List Token} {x : Filter C} → IsNeg R from to x → (d : ℕ) → HasRoom d from → Stops (s.Mark marks.Dot) to → neg_at (p d) (cond_at p d) from ≡ Some (x, to)
    neg_read (plain {from = from} {to = to} {x = x} a) d h n = plain_goes (p d) (cond_at p d) from to x (test_begins R z a) (test_read a d h n)
    neg_read (not {from = from} {to = to} {x = x} a) d h n = not_goes (p d) (cond_at p d) from to x (test_read a d h n)

    test_read : {from to : List Token} {x : Filter C} → IsTest R from to x → (d : ℕ) → HasRoom d from → Stops (s.Mark marks.Dot) to → test_at (p d) (cond_at p d) from ≡ Some (x, to)
    test_read (parens a) zero h n = absurd h
    test_read (parens {from = from} {to = to} {x = x} a) (suc d) h n = parens_read (cond_at p (suc d)) (bare_at (p (suc d))) from to x (cond_read a d h (close_ends to))
    test_read (bare {from = from} {to = to} {x = x} a) d h n = open_read (cond_at p d) (bare_at (p d)) from (Some (x, to)) (bare_no_open R z a) (bare_read R t z (p d) d (complete d) a h n)
