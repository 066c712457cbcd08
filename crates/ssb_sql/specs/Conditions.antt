-- Which tokens spell which condition.
-- Source: SQL-92, 8.2 <comparison predicate>, 8.3 <between predicate>, 8.4 <in predicate>, 8.6 <null predicate>
-- and 8.12 <search condition>, cut down.
-- The families take as a parameter what may stand in a test beside literals: R spells it.
use Rattle.std.specs.Prelude.{Bool, true, false, List, [], ◌∷◌}
use Rattle.ssb_terms.specs.declared.operator.Op.{Op}
use Rattle.ssb_terms.specs.declared.operator.Op.TheVariants as op
use Rattle.ssb_tokens.specs.declared.token.Token.{Token}
use Rattle.ssb_tokens.specs.declared.token.Mark.{Mark}
use Rattle.ssb_terms.specs.declared.keyword.Keyword.TheVariants as words
use Rattle.ssb_tokens.specs.declared.token.Mark.TheVariants as marks
use Rattle.ssb_terms.specs.declared.literal.Literal.{Literal}
use Rattle.ssb_trees.specs.declared.operand.Operand.TheVariants as operand
use Rattle.ssb_trees.specs.declared.condition.Condition.TheVariants as c
use Rattle.ssb_sql.specs.Forms.{Spelling, IsList, IsLiteral, IsOperand, chain_of, word, mark}
use Rattle.ssb_trees.specs.Conditions.{Filter}
use Rattle.ssb_trees.specs.declared.operand.Operand.{Operand}

-- op = "=" | "<>" | "<" | "<=" | ">" | ">="
abbrev pub mark_of : Op → Mark
mark_of op.Eq = marks.Equal
mark_of op.Ne = marks.NotEqual
mark_of op.Lt = marks.Less
mark_of op.Le = marks.LessEqual
mark_of op.Gt = marks.Greater
mark_of op.Ge = marks.GreaterEqual

-- [NOT]
abbrev pub not_if : Bool → List Token → List Token
not_if true ts = word words.Not ∷ ts
not_if false ts = ts

-- a test with no parentheses round it
pub data IsBare {C : Type 0} (R : Spelling C) : List Token → List Token → Filter C → Type 0 where
  -- operand op operand
  compare : {from mid to : List Token} {op : Op} {x y : Operand C} → IsOperand R from (mark (mark_of op) ∷ mid) x → IsOperand R mid to y → IsBare R from to (c.Compare op x y)
  -- operand [NOT] BETWEEN operand AND operand
  between : (negated : Bool) {from low high to : List Token} {x y z : Operand C} → IsOperand R from (not_if negated (word words.Between ∷ low)) x → IsOperand R low (word words.And ∷ high) y → IsOperand R high to z → IsBare R from to (c.Between x y z negated)
  -- operand [NOT] IN "(" literal {"," literal} ")"
  among : (negated : Bool) {from mid to : List Token} {x : Operand C} {ys : List Literal} → IsOperand R from (not_if negated (word words.In ∷ mark marks.Open ∷ mid)) x → IsList IsLiteral mid (mark marks.Close ∷ to) ys → IsBare R from to (c.In x ys negated)
  -- R IS [NOT] NULL
  null : (negated : Bool) {from to : List Token} {x : C} → R from (word words.Is ∷ not_if negated (word words.Null ∷ to)) x → IsBare R from to (c.IsNull (operand.Column x) negated)

abbrev pub or_chain : {C : Type 0} → List (Filter C) → Filter C
or_chain = chain_of c.Any

abbrev pub and_chain : {C : Type 0} → List (Filter C) → Filter C
and_chain = chain_of c.All

mutual
  -- cond = conj {OR conj}
  pub data IsCond {C : Type 0} (R : Spelling C) : List Token → List Token → Filter C → Type 0 where
    cond : {from mid to : List Token} {x : Filter C} {xs : List (Filter C)} → IsConj R from mid x → IsOrs R mid to xs → IsCond R from to (or_chain (x ∷ xs))

  pub data IsOrs {C : Type 0} (R : Spelling C) : List Token → List Token → List (Filter C) → Type 0 where
    no_or : {to : List Token} → IsOrs R to to []
    or : {from mid to : List Token} {x : Filter C} {xs : List (Filter C)} → IsConj R from mid x → IsOrs R mid to xs → IsOrs R (word words.Or ∷ from) to (x ∷ xs)

  -- conj = neg {AND neg}
  pub data IsConj {C : Type 0} (R : Spelling C) : List Token → List Token → Filter C → Type 0 where
    conj : {from mid to : List Token} {x : Filter C} {xs : List (Filter C)} → IsNeg R from mid x → IsAnds R mid to xs → IsConj R from to (and_chain (x ∷ xs))

  pub data IsAnds {C : Type 0} (R : Spelling C) : List Token → List Token → List (Filter C) → Type 0 where
    no_and : {to : List Token} → IsAnds R to to []
    and : {from mid to : List Token} {x : Filter C} {xs : List (Filter C)} → IsNeg R from mid x → IsAnds R mid to xs → IsAnds R (word words.And ∷ from) to (x ∷ xs)

  -- neg = [NOT] test
  pub data IsNeg {C : Type 0} (R : Spelling C) : List Token → List Token → Filter C → Type 0 where
    plain : {from to : List Token} {x : Filter C} → IsTest R from to x → IsNeg R from to x
    not : {from to : List Token} {x : Filter C} → IsTest R from to x → IsNeg R (word words.Not ∷ from) to (c.Not x)

  -- test = "(" cond ")" | a test with no parentheses
  pub data IsTest {C : Type 0} (R : Spelling C) : List Token → List Token → Filter C → Type 0 where
    parens : {from to : List Token} {x : Filter C} → IsCond R from (mark marks.Close ∷ to) x → IsTest R (mark marks.Open ∷ from) to x
    bare : {from to : List Token} {x : Filter C} → IsBare R from to x → IsTest R from to x
