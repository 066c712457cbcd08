-- Which tokens spell which query.
-- Source: SQL-92, 7.9 <query specification>, 6.5 <set function specification>, 7.4 to 7.8 and 13.1 <order by clause>, cut down.
use Rattle.std.specs.Prelude.{ℕ, true, false, List, [], ◌∷◌, Option, Some, None}
use Rattle.ssb_tokens.specs.declared.token.Token.{Token}
use Rattle.ssb_tokens.specs.declared.token.Token.TheVariants.{Name, Number}
use Rattle.ssb_terms.specs.declared.keyword.Keyword.{Keyword}
use Rattle.ssb_terms.specs.declared.keyword.Keyword.TheVariants as words
use Rattle.ssb_tokens.specs.declared.token.Mark.TheVariants as marks
use Rattle.ssb_sql.specs.declared.named.ColumnName.{ColumnName}
use Rattle.ssb_trees.specs.declared.aggregate.Aggregate.TheVariants as a
use Rattle.ssb_trees.specs.declared.aggregate.SetFunction.{SetFunction}
use Rattle.ssb_trees.specs.declared.aggregate.SetFunction.TheVariants as functions
use Rattle.ssb_sql.specs.declared.select.Output.{Output}
use Rattle.ssb_sql.specs.declared.select.Output.TheVariants as u
use Rattle.ssb_sql.specs.declared.select.Item.{Item}
use Rattle.ssb_sql.specs.declared.select.Key.{Key}
use Rattle.ssb_sql.specs.declared.select.Key.TheVariants as k
use Rattle.ssb_sql.specs.declared.select.Order.{Order}
use Rattle.ssb_sql.specs.declared.select.Select.{Select}
use Rattle.ssb_sql.specs.Forms.{Spelling, IsList, IsNamed, IsColumn, word, mark}
use Rattle.ssb_sql.specs.Expressions.{IsExpr}
use Rattle.ssb_sql.specs.Conditions.{IsCond}
use Rattle.ssb_trees.specs.Conditions.{Filter}
use Rattle.ssb_trees.specs.declared.aggregate.Aggregate.{Aggregate}
use Rattle.ssb_trees.specs.declared.expr.Expr.{Expr}

-- SUM | COUNT | MIN | MAX
abbrev pub function_word : SetFunction → Keyword
function_word functions.Sum = words.Sum
function_word functions.Count = words.Count
function_word functions.Min = words.Min
function_word functions.Max = words.Max

-- aggregate = COUNT "(" "*" ")" | (SUM | COUNT | MIN | MAX) "(" expr ")"
pub data IsAggregate : List Token → List Token → Aggregate ColumnName → Type 0 where
  rows : {to : List Token} → IsAggregate (word words.Count ∷ mark marks.Open ∷ mark marks.Times ∷ mark marks.Close ∷ to) to a.Rows
  of : {from to : List Token} {f : SetFunction} {x : Expr ColumnName} → IsExpr from (mark marks.Close ∷ to) x → IsAggregate (word (function_word f) ∷ mark marks.Open ∷ from) to (a.Of f x)

-- column | aggregate
pub data IsOutput : List Token → List Token → Output → Type 0 where
  column : {from to : List Token} {x : ColumnName} → IsColumn from to x → IsOutput from to (u.Column x)
  aggregate : {from to : List Token} {x : Aggregate ColumnName} → IsAggregate from to x → IsOutput from to (u.Aggregate x)

-- item = (column | aggregate) [AS name]
pub data IsItem : List Token → List Token → Item → Type 0 where
  unnamed : {from to : List Token} {x : Output} → IsOutput from to x → IsItem from to (record { output = x; alias = None })
  named : {from to : List Token} {x : Output} {n : List ℕ} → IsOutput from (word words.As ∷ Name n ∷ to) x → IsItem from to (record { output = x; alias = Some n })

-- [word cond], over what R spells
pub data IsFilter {C : Type 0} (w : Keyword) (R : Spelling C) : List Token → List Token → Option (Filter C) → Type 0 where
  no_filter : {to : List Token} → IsFilter w R to to None
  filter : {from to : List Token} {x : Filter C} → IsCond R from to x → IsFilter w R (word w ∷ from) to (Some x)

-- [WHERE cond]
abbrev pub IsWhere : Spelling (Option (Filter ColumnName))
IsWhere = IsFilter words.Where IsColumn

-- [HAVING cond], where an aggregate may stand for a column
abbrev pub IsHaving : Spelling (Option (Filter Output))
IsHaving = IsFilter words.Having IsOutput

-- [GROUP BY column {"," column}]
pub data IsGroups : List Token → List Token → List ColumnName → Type 0 where
  no_groups : {to : List Token} → IsGroups to to []
  groups : {from to : List Token} {xs : List ColumnName} → IsList IsColumn from to xs → IsGroups (word words.Group ∷ word words.By ∷ from) to xs

-- name | number
pub data IsKey : List Token → List Token → Key → Type 0 where
  name : {to : List Token} {n : List ℕ} → IsKey (Name n ∷ to) to (k.Name n)
  position : {to : List Token} {n : ℕ} → IsKey (Number n ∷ to) to (k.Position n)

-- key = (name | number) [ASC | DESC]
pub data IsOrder : List Token → List Token → Order → Type 0 where
  plain : {from to : List Token} {x : Key} → IsKey from to x → IsOrder from to (record { key = x; descending = false })
  asc : {from to : List Token} {x : Key} → IsKey from (word words.Asc ∷ to) x → IsOrder from to (record { key = x; descending = false })
  desc : {from to : List Token} {x : Key} → IsKey from (word words.Desc ∷ to) x → IsOrder from to (record { key = x; descending = true })

-- [ORDER BY key {"," key}]
pub data IsOrders : List Token → List Token → List Order → Type 0 where
  no_orders : {to : List Token} → IsOrders to to []
  orders : {from to : List Token} {xs : List Order} → IsList IsOrder from to xs → IsOrders (word words.Order ∷ word words.By ∷ from) to xs

-- [";"], and no token more
pub data IsEnd : List Token → Type 0 where
  end : IsEnd []
  semicolon : IsEnd (mark marks.Semicolon ∷ [])

-- query = SELECT item {"," item} FROM name {"," name} [WHERE cond] [GROUP BY column {"," column}] [HAVING cond] [ORDER BY key {"," key}] [";"]
pub data Parses : List Token → Select → Type 0 where
  query : {a b c d e f g : List Token} {items : List Item} {from : List (List ℕ)} {condition : Option (Filter ColumnName)} {groups : List ColumnName} {having : Option (Filter Output)} {orders : List Order}
      → IsList IsItem a (word words.From ∷ b) items → IsList IsNamed b c from → IsWhere c d condition → IsGroups d e groups → IsHaving e f having → IsOrders f g orders → IsEnd g
      → Parses (word words.Select ∷ a) (record { items = items; from = from; condition = condition; groups = groups; having = having; orders = orders })
