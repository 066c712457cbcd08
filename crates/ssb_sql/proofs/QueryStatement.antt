-- The tokens of a query are one statement: no `;` is among them but the last.
use Rattle.std.proofs.Common.{◌≡◌, ℕ, Bool, true, false, List, [], ◌∷◌, ◌++◌, Option, refl, sym, ap, subst, ◌∙◌, arith, append_assoc}
use Rattle.std.proofs.lemmas.Bool.{cond-false}
use Rattle.std.proofs.lemmas.List.{append-nil}
use Rattle.ssb_terms.specs.declared.keyword.Keyword.{Keyword}
use Rattle.ssb_terms.specs.declared.keyword.Keyword.TheVariants as words
use Rattle.ssb_terms.specs.declared.literal.Literal.{Literal}
use Rattle.ssb_terms.specs.declared.operator.Op.{Op}
use Rattle.ssb_terms.specs.declared.operator.Op.TheVariants as op
use Rattle.ssb_tokens.specs.declared.token.Token.{Token}
use Rattle.ssb_tokens.specs.StatementLaws.{is_semicolon, token_statements, token_statements_from}
use Rattle.ssb_tokens.specs.Statements.{if_any, within}
use Rattle.ssb_tokens.proofs.SingleStatement.{single}
use Rattle.ssb_tokens.proofs.TokenLists.{one_list}
use Rattle.ssb_trees.specs.Conditions.{Filter}
use Rattle.ssb_trees.specs.declared.aggregate.Aggregate.{Aggregate}
use Rattle.ssb_trees.specs.declared.expr.Expr.{Expr}
use Rattle.ssb_trees.specs.declared.expr.Step.{Step}
use Rattle.ssb_trees.specs.declared.operand.Operand.{Operand}
use Rattle.ssb_sql.specs.declared.named.ColumnName.{ColumnName}
use Rattle.ssb_sql.specs.declared.select.Item.{Item}
use Rattle.ssb_sql.specs.declared.select.Key.{Key}
use Rattle.ssb_sql.specs.declared.select.Order.{Order}
use Rattle.ssb_sql.specs.declared.select.Output.{Output}
use Rattle.ssb_sql.specs.declared.select.Select.{Select}
use Rattle.ssb_sql.specs.Conditions.{IsBare, IsCond, IsOrs, IsConj, IsAnds, IsNeg, IsTest, mark_of, not_if}
use Rattle.ssb_sql.specs.Conditions.IsBare.{compare, between, among, null}
use Rattle.ssb_sql.specs.Conditions.IsCond.{cond}
use Rattle.ssb_sql.specs.Conditions.IsOrs.{no_or, or}
use Rattle.ssb_sql.specs.Conditions.IsConj.{conj}
use Rattle.ssb_sql.specs.Conditions.IsAnds.{no_and, and}
use Rattle.ssb_sql.specs.Conditions.IsNeg.{plain as affirmed, not as denied}
use Rattle.ssb_sql.specs.Conditions.IsTest.{parens as cond_parens, bare}
use Rattle.ssb_sql.specs.Expressions.{IsExpr, IsSteps, IsTerm, IsFactors, IsFactor, IsPrimary}
use Rattle.ssb_sql.specs.Expressions.IsExpr.{expr}
use Rattle.ssb_sql.specs.Expressions.IsSteps.{no_step, plus, minus}
use Rattle.ssb_sql.specs.Expressions.IsTerm.{term}
use Rattle.ssb_sql.specs.Expressions.IsFactors.{no_factor, times}
use Rattle.ssb_sql.specs.Expressions.IsFactor.{plain as unsigned, positive as plus_primary, negative as minus_primary}
use Rattle.ssb_sql.specs.Expressions.IsPrimary.{column as column_primary, number as number_primary, parens as expr_parens}
use Rattle.ssb_sql.specs.Forms.{Spelling, IsMore, IsList, IsNamed, IsColumn, IsLiteral, IsOperand, mark, word}
use Rattle.ssb_sql.specs.Forms.IsMore.{no_more, comma}
use Rattle.ssb_sql.specs.Forms.IsList.{list}
use Rattle.ssb_sql.specs.Forms.IsNamed.{name}
use Rattle.ssb_sql.specs.Forms.IsColumn.{alone, dotted}
use Rattle.ssb_sql.specs.Forms.IsLiteral.{number, positive, negative, text}
use Rattle.ssb_sql.specs.Forms.IsOperand.{column, literal}
use Rattle.ssb_sql.specs.Grammar.{IsAggregate, IsOutput, IsItem, IsFilter, IsGroups, IsKey, IsOrder, IsOrders, IsEnd, Parses}
use Rattle.ssb_sql.specs.Grammar.IsAggregate.{rows, of}
use Rattle.ssb_sql.specs.Grammar.IsOutput.{column as column_output, aggregate}
use Rattle.ssb_sql.specs.Grammar.IsItem.{unnamed, named}
use Rattle.ssb_sql.specs.Grammar.IsFilter.{no_filter, filter}
use Rattle.ssb_sql.specs.Grammar.IsGroups.{no_groups, groups}
use Rattle.ssb_sql.specs.Grammar.IsKey.{name as key_name, position}
use Rattle.ssb_sql.specs.Grammar.IsOrder.{plain as unordered, asc, desc}
use Rattle.ssb_sql.specs.Grammar.IsOrders.{no_orders, orders}
use Rattle.ssb_sql.specs.Grammar.IsEnd.{end, semicolon}
use Rattle.ssb_sql.specs.Grammar.Parses.{query}
use Rattle.ssb_sql.specs.Depth.{IsWithin}
use Rattle.ssb_sql.specs.OneStatement.{IsOneStatement}
use Rattle.ssb_sql.specs.Spells.{IsRead}

-- from the first tokens to the second no `;` goes by
data Passed : List Token → List Token → Type 0 where
  here : {to : List Token} → Passed to to
  one : {t : Token} {from to : List Token} → is_semicolon t ≡ false → Passed from to → Passed (t ∷ from) to

joined : {from mid to : List Token} → Passed from mid → Passed mid to → Passed from to
joined here b = b
joined (one h a) b = one h (joined a b)

-- what R spells has no `;`
record Plain {A : Type 0} (R : Spelling A) : Type 0 where
  by : {from to : List Token} {x : A} → R from to x → Passed from to

-- ---- lists, columns, literals and operands

module _ {A : Type 0} (R : Spelling A) (p : Plain R) where
  more_passed : {from to : List Token} {xs : List A} → IsMore R from to xs → Passed from to
  more_passed no_more = here
  more_passed (comma a b) = one refl (joined (p.by a) (more_passed b))

  list_passed : {from to : List Token} {xs : List A} → IsList R from to xs → Passed from to
  list_passed (list a b) = joined (p.by a) (more_passed b)

named_passed : {from to : List Token} {x : List ℕ} → IsNamed from to x → Passed from to
named_passed name = one refl here

column_passed : {from to : List Token} {x : ColumnName} → IsColumn from to x → Passed from to
column_passed alone = one refl here
column_passed dotted = one refl (one refl (one refl here))

literal_passed : {from to : List Token} {x : Literal} → IsLiteral from to x → Passed from to
literal_passed (number h) = one refl here
literal_passed (positive h) = one refl (one refl here)
literal_passed (negative h) = one refl (one refl here)
literal_passed text = one refl here

plain_literal : Plain IsLiteral
plain_literal = record { by = λ h. literal_passed h }

plain_column : Plain IsColumn
plain_column = record { by = λ h. column_passed h }

-- ---- expressions

mutual
  expr_passed : {from to : List Token} {x : Expr ColumnName} → IsExpr from to x → Passed from to
  expr_passed (expr a b) = joined (term_passed a) (steps_passed b)

  steps_passed : {from to : List Token} {xs : List (Step ColumnName)} → IsSteps from to xs → Passed from to
  steps_passed no_step = here
  steps_passed (plus a b) = one refl (joined (term_passed a) (steps_passed b))
  steps_passed (minus a b) = one refl (joined (term_passed a) (steps_passed b))

  term_passed : {from to : List Token} {x : Expr ColumnName} → IsTerm from to x → Passed from to
  term_passed (term a b) = joined (factor_passed a) (factors_passed b)

  factors_passed : {from to : List Token} {xs : List (Expr ColumnName)} → IsFactors from to xs → Passed from to
  factors_passed no_factor = here
  factors_passed (times a b) = one refl (joined (factor_passed a) (factors_passed b))

  factor_passed : {from to : List Token} {x : Expr ColumnName} → IsFactor from to x → Passed from to
  factor_passed (unsigned a) = primary_passed a
  factor_passed (plus_primary a) = one refl (primary_passed a)
  factor_passed (minus_primary a) = one refl (primary_passed a)

  primary_passed : {from to : List Token} {x : Expr ColumnName} → IsPrimary from to x → Passed from to
  primary_passed (column_primary a) = column_passed a
  primary_passed number_primary = one refl here
  primary_passed (expr_parens a) = one refl (joined (expr_passed a) (one refl here))

-- ---- conditions

op_plain : (y : Op) → is_semicolon (mark (mark_of y)) ≡ false
op_plain op.Eq = refl
op_plain op.Ne = refl
op_plain op.Lt = refl
op_plain op.Le = refl
op_plain op.Gt = refl
op_plain op.Ge = refl

not_passed : (negated : Bool) {from to : List Token} → Passed from to → Passed (not_if negated from) to
not_passed true a = one refl a
not_passed false a = a

module _ {C : Type 0} (R : Spelling C) (p : Plain R) where
  operand_passed : {from to : List Token} {x : Operand C} → IsOperand R from to x → Passed from to
  operand_passed (column a) = p.by a
  operand_passed (literal a) = literal_passed a

  bare_passed : {from to : List Token} {x : Filter C} → IsBare R from to x → Passed from to
  bare_passed (compare {op = y} a b) = joined (operand_passed a) (one (op_plain y) (operand_passed b))
  bare_passed (between negated a b c) = joined (operand_passed a) (not_passed negated (one refl (joined (operand_passed b) (one refl (operand_passed c)))))
  bare_passed (among negated a b) = joined (operand_passed a) (not_passed negated (one refl (one refl (joined (list_passed IsLiteral plain_literal b) (one refl here)))))
  bare_passed (null negated a) = joined (p.by a) (one refl (not_passed negated (one refl here)))

  mutual
    cond_passed : {from to : List Token} {x : Filter C} → IsCond R from to x → Passed from to
    cond_passed (cond a b) = joined (conj_passed a) (ors_passed b)

    ors_passed : {from to : List Token} {xs : List (Filter C)} → IsOrs R from to xs → Passed from to
    ors_passed no_or = here
    ors_passed (or a b) = one refl (joined (conj_passed a) (ors_passed b))

    conj_passed : {from to : List Token} {x : Filter C} → IsConj R from to x → Passed from to
    conj_passed (conj a b) = joined (neg_passed a) (ands_passed b)

    ands_passed : {from to : List Token} {xs : List (Filter C)} → IsAnds R from to xs → Passed from to
    ands_passed no_and = here
    ands_passed (and a b) = one refl (joined (neg_passed a) (ands_passed b))

    neg_passed : {from to : List Token} {x : Filter C} → IsNeg R from to x → Passed from to
    neg_passed (affirmed a) = test_passed a
    neg_passed (denied a) = one refl (test_passed a)

    test_passed : {from to : List Token} {x : Filter C} → IsTest R from to x → Passed from to
    test_passed (cond_parens a) = one refl (joined (cond_passed a) (one refl here))
    test_passed (bare a) = bare_passed a

  filter_passed : {w : Keyword} {from to : List Token} {x : Option (Filter C)} → IsFilter w R from to x → Passed from to
  filter_passed no_filter = here
  filter_passed (filter a) = one refl (cond_passed a)

-- ---- queries

aggregate_passed : {from to : List Token} {x : Aggregate ColumnName} → IsAggregate from to x → Passed from to
aggregate_passed rows = one refl (one refl (one refl (one refl here)))
aggregate_passed (of a) = one refl (one refl (joined (expr_passed a) (one refl here)))

output_passed : {from to : List Token} {x : Output} → IsOutput from to x → Passed from to
output_passed (column_output a) = column_passed a
output_passed (aggregate a) = aggregate_passed a

item_passed : {from to : List Token} {x : Item} → IsItem from to x → Passed from to
item_passed (unnamed a) = output_passed a
item_passed (named a) = joined (output_passed a) (one refl (one refl here))

groups_passed : {from to : List Token} {xs : List ColumnName} → IsGroups from to xs → Passed from to
groups_passed no_groups = here
groups_passed (groups a) = one refl (one refl (list_passed IsColumn plain_column a))

key_passed : {from to : List Token} {x : Key} → IsKey from to x → Passed from to
key_passed key_name = one refl here
key_passed position = one refl here

order_passed : {from to : List Token} {x : Order} → IsOrder from to x → Passed from to
order_passed (unordered a) = key_passed a
order_passed (asc a) = joined (key_passed a) (one refl here)
order_passed (desc a) = joined (key_passed a) (one refl here)

orders_passed : {from to : List Token} {xs : List Order} → IsOrders from to xs → Passed from to
orders_passed no_orders = here
orders_passed (orders a) = one refl (one refl (list_passed IsOrder (record { by = λ h. order_passed h }) a))

-- tokens that have a `;` at their end at most, behind some that have none
ends_one : {from to : List Token} → Passed from to → IsEnd to → (u : Token) (us : List Token) → token_statements_from (u ∷ us) from ≡ ((u ∷ us) ++ from) ∷ []
unfolding token_statements_from
ends_one here end u us = ap (λ l. l ∷ []) (sym (append-nil (u ∷ us)))
ends_one here semicolon u us = refl
ends_one (one {t = t} {from = from} h a) e u us =
    cond-false (is_semicolon t) (if_any (within (u ∷ us) t) ++ token_statements_from [] from) (token_statements_from ((u ∷ us) ++ t ∷ []) from) h
    ∙ ends_one a e u (us ++ t ∷ [])
    ∙ ap (λ l. l ∷ []) (append_assoc (u ∷ us) (t ∷ []) from)

query_is_one : {ts : List Token} {x : Select} → Parses ts x → token_statements ts ≡ ts ∷ []
unfolding token_statements_from
query_is_one (query items from wheres by having order e) =
    ends_one (joined (list_passed IsItem (record { by = λ h. item_passed h }) items) (one refl
    (joined (list_passed IsNamed (record { by = λ h. named_passed h }) from)
    (joined (filter_passed IsColumn plain_column wheres)
    (joined (groups_passed by)
    (joined (filter_passed IsOutput (record { by = λ h. output_passed h }) having) (orders_passed order))))))) e (word words.Select) []

pub one_statement : (bytes : List ℕ) (x : Select) → IsRead bytes x → IsOneStatement bytes x
one_statement bytes x h =
    let tokens = h.spells.tokens in
    let q = single bytes tokens h.spells.is_text (query_is_one h.spells.is_query) in
    let short = h.short in
    let shorter = q.short in
    record {
      statement = q.statement;
      all = q.all;
      is_read = record {
        short = omega arith;
        shallow = λ ts is. subst (IsWithin 64) (one_list q.statement tokens ts q.is_text is) (h.shallow tokens h.spells.is_text);
        spells = record { tokens = tokens; is_text = q.is_text; is_query = h.spells.is_query };
      };
    }
