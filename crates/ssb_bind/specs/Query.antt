-- The query that a select means over a catalog, part by part.
-- Source: SQL-92, 6.3 <table reference>, 6.4 <column reference>, 7.9 <query specification>, 13.1 <declare cursor>, cut down to the language.
use Rattle.std.specs.Prelude.{◌≡◌, ℕ, ⊤, List, [], ◌∷◌, ◌++◌, length, map, Option, Some, None, slice_get}
use Rattle.std.specs.List.{filter_map, range_with_len}
use Rattle.ssb_catalog.specs.Shapes.{TableShape}
use Rattle.ssb_sql.specs.declared.select.Item.{Item}
use Rattle.ssb_sql.specs.declared.select.Order.{Order}
use Rattle.ssb_sql.specs.declared.select.Select.{Select}
use Rattle.ssb_trees.specs.Conditions.{Filter, mapped, operands}
use Rattle.ssb_trees.specs.declared.condition.Condition.{Condition}
use Rattle.ssb_trees.specs.declared.operand.Operand.{Operand}
use Rattle.ssb_trees.specs.declared.operand.Operand.TheVariants as operand
use Rattle.ssb_bind.specs.Bound.{aggregate_of, aggregates_of, bound_where, having_aggregates, the_column}
use Rattle.ssb_bind.specs.Columns.{table_number}
use Rattle.ssb_bind.specs.Orders.{name_of_item, places_for}
use Rattle.ssb_bind.specs.Rules.{rules_in}
use Rattle.ssb_bind.specs.declared.resolved.Resolved.{Resolved}
use Rattle.ssb_bind.specs.declared.resolved.ResolvedOutput.{ResolvedOutput}
use Rattle.ssb_bind.specs.declared.resolved.ResolvedOutput.TheVariants as output
use Rattle.ssb_query.specs.Tables.{fact_place}
use Rattle.ssb_query.specs.declared.query.BoundItem.{BoundItem}
use Rattle.ssb_query.specs.declared.query.BoundOrder.{BoundOrder}
use Rattle.ssb_query.specs.declared.query.Origin.{Origin}
use Rattle.ssb_query.specs.declared.query.Origin.TheVariants as origin
use Rattle.ssb_query.specs.declared.query.QueryParts.{QueryParts}

-- two lists are of one length, and R holds of what stands at each place
abbrev pub Each : {A B : Type 0} → (A → B → Type 0) → List A → List B → Type 0
Each R [] [] = ⊤
Each R (x ∷ xs) (y ∷ ys) = R x y × Each R xs ys
Each R xs ys = ⊥

-- a column shows its group column, and an aggregate one of the query's
abbrev pub Shows : QueryParts → ResolvedOutput → Origin → Type 0
Shows q (output.Column name group) (origin.Group k) = group ≡ Some k
Shows q (output.Column name group) (origin.Aggregate k) = ⊥
Shows q o (origin.Group k) = ⊥
Shows q o (origin.Aggregate k) = slice_get q.aggregates k ≡ aggregate_of o

pub record IsItem (q : QueryParts) (o : ResolvedOutput) (own : Option (List ℕ)) (b : BoundItem) : Type 0 where
  pub origin : Shows q o b.origin
  pub name : b.name ≡ own

-- the select columns, each with its own output and name
abbrev pub AreItems : QueryParts → List ResolvedOutput → List Item → List BoundItem → Type 0
AreItems q [] [] [] = ⊤
AreItems q (o ∷ os) (item ∷ items) (b ∷ bs) = IsItem q o (name_of_item item) b × AreItems q os items bs
AreItems q os items bs = ⊥

-- HAVING is the same condition, whatever its operands are, and each stands for the one that is written in its place

abbrev pub form : {O : Type 0} → Condition O → Condition ⊤
form {O} = mapped O ⊤ (λ o. tt)

abbrev pub StandsFor : QueryParts → Operand ResolvedOutput → Operand Origin → Type 0
StandsFor q (operand.Column o) (operand.Column x) = Shows q o x
StandsFor q (operand.Literal l) (operand.Literal m) = m ≡ l
StandsFor q o x = ⊥

abbrev pub MeansHaving : QueryParts → Option (Filter ResolvedOutput) → Option (Filter Origin) → Type 0
MeansHaving q None None = ⊤
MeansHaving q (Some h) (Some b) = (form b ≡ form h) × Each (StandsFor q) (operands (Operand ResolvedOutput) h) (operands (Operand Origin) b)
MeansHaving q h b = ⊥

abbrev pub aggregate_number : Origin → Option ℕ
aggregate_number (origin.Group k) = None
aggregate_number (origin.Aggregate k) = Some k

abbrev pub operand_number : Operand Origin → Option ℕ
operand_number (operand.Column x) = aggregate_number x
operand_number (operand.Literal l) = None

abbrev pub having_numbers : Option (Filter Origin) → List ℕ
having_numbers None = []
having_numbers (Some b) = filter_map operand_number (operands (Operand Origin) b)

-- the numbers of the aggregates, in the order of the text
abbrev pub numbers : QueryParts → List ℕ
numbers q = filter_map (λ item. aggregate_number item.origin) q.items ++ having_numbers q.having

-- an order key stands for the one select column that it fits
pub record IsOrder (items : List Item) (o : Order) (b : BoundOrder) : Type 0 where
  pub item : places_for items o.key ≡ b.item ∷ []
  pub descending : b.descending ≡ o.descending

-- FROM's names are those of the query's tables, one of them is the fact table, each name stands for its column, the aggregates are those of the select list
-- and then those of HAVING, in the order of the text, and each is one select column's or one operand's.
pub record IsQueryOf (c : List TableShape) (s : Select) (r : Resolved) (q : QueryParts) : Type 0 where
  pub tables : q.tables ≡ rules_in c
  pub from : map (table_number c) s.from ≡ map Some q.from
  pub fact : fact_place q.tables q.from ≡ Some q.fact
  pub condition : q.condition ≡ bound_where r.condition
  pub groups : q.groups ≡ map the_column r.groups
  pub aggregates : q.aggregates ≡ aggregates_of r.outputs ++ having_aggregates r.having
  pub items : AreItems q r.outputs s.items q.items
  pub having : MeansHaving q r.having q.having
  pub numbers : numbers q ≡ range_with_len 0 (length q.aggregates)
  pub orders : Each (IsOrder s.items) s.orders q.orders
