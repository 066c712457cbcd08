-- How the code binds, step by step: the query of a select whose names each fit one column.
-- For the contracts inside this crate.
use Rattle.std.specs.Prelude.{◌≡◌, ℕ, ◌+◌, Bool, true, false, if◌then◌else◌, List, [], ◌∷◌, ◌++◌, length, map, Option, None, Some, Result, Ok, Err, unwrap_or, ⊤}
use Rattle.std.specs.List.{list_all}
use Rattle.std.specs.Option.{is_some}
use Rattle.ssb_sql.specs.declared.select.Item.{Item}
use Rattle.ssb_sql.specs.declared.select.Select.{Select}
use Rattle.ssb_trees.specs.Conditions.{Filter, filter_columns, mapped_operand, operand_columns, operands}
use Rattle.ssb_trees.specs.Expressions.{aggregate_columns}
use Rattle.ssb_trees.specs.declared.aggregate.Aggregate.{Aggregate}
use Rattle.ssb_trees.specs.declared.operand.Operand.{Operand}
use Rattle.ssb_query.specs.Tables.{fact_place}
use Rattle.ssb_query.specs.declared.column.BoundColumn.{BoundColumn}
use Rattle.ssb_query.specs.declared.query.BoundItem.{BoundItem}
use Rattle.ssb_query.specs.declared.query.Origin.{Origin}
use Rattle.ssb_query.specs.declared.query.Origin.TheVariants as origin
use Rattle.ssb_query.specs.declared.query.QueryParts.{QueryParts}
use Rattle.ssb_query.specs.declared.query.TableRules.{TableRules}
use Rattle.ssb_bind.specs.Bound.{aggregates_of, bound_where, having_aggregates, operand_aggregate, the_column}
use Rattle.ssb_bind.specs.Faults.{Says, draft, first_of, part_faults, shape_faults}
use Rattle.ssb_bind.specs.Orders.{bound_order, fits_one, name_of_item}
use Rattle.ssb_bind.specs.Query.{form}
use Rattle.ssb_bind.specs.declared.fault.BindFault.{BindFault}
use Rattle.ssb_bind.specs.declared.resolved.Resolved.{Resolved}
use Rattle.ssb_bind.specs.declared.resolved.ResolvedName.{ResolvedName}
use Rattle.ssb_bind.specs.declared.resolved.ResolvedOutput.{ResolvedOutput}
use Rattle.ssb_bind.specs.declared.resolved.ResolvedOutput.TheVariants as output

-- A select column by its place: that of its group column, or of its aggregate, of which so many stand before it. A column that is
-- no group column, which no bound query has, takes the first.
abbrev pub origin_of : ℕ → ResolvedOutput → Origin
origin_of before (output.Column name group) = origin.Group (unwrap_or group 0)
origin_of before (output.Aggregate a) = origin.Aggregate before

abbrev pub is_aggregate : ResolvedOutput → Bool
is_aggregate (output.Column name group) = false
is_aggregate (output.Aggregate a) = true

abbrev pub bound_item : ℕ → ResolvedOutput → Item → BoundItem
bound_item before o item = record { origin = origin_of before o; name = name_of_item item }

abbrev pub bound_items : ℕ → List ResolvedOutput → List Item → List BoundItem
bound_items before (o ∷ os) (item ∷ items) = bound_item before o item ∷ bound_items (if is_aggregate o then before + 1 else before) os items
bound_items before os items = []

-- an operand of HAVING in its turn, of which so many aggregates stand before it
abbrev pub operand_of : ℕ → Operand ResolvedOutput → Operand Origin
operand_of before = mapped_operand ResolvedOutput Origin (origin_of before)

abbrev pub and_last : {A : Type 0} → List A → Option A → List A
and_last all None = all
and_last all (Some a) = all ++ a ∷ []

-- the aggregates so far, and that of an operand behind them
abbrev pub and_aggregate : List (Aggregate BoundColumn) → Operand ResolvedOutput → List (Aggregate BoundColumn)
and_aggregate all o = and_last all (operand_aggregate o)

abbrev pub operands_of : List (Aggregate BoundColumn) → List (Operand ResolvedOutput) → List (Operand Origin)
operands_of all [] = []
operands_of all (o ∷ os) = operand_of (length all) o ∷ operands_of (and_aggregate all o) os

-- HAVING keeps its form, and its operands are bound one after the other
abbrev pub BindsHaving : List (Aggregate BoundColumn) → Option (Filter ResolvedOutput) → Option (Filter Origin) → Type 0
BindsHaving all None None = ⊤
BindsHaving all (Some h) (Some b) = (form b ≡ form h) × (operands (Operand Origin) b ≡ operands_of all (operands (Operand ResolvedOutput) h))
BindsHaving all h b = ⊥

-- the select with a column for each name, and this HAVING
unfoldable pub bound_from : List TableRules → List ℕ → Resolved → Select → Option (Filter Origin) → QueryParts
bound_from tables from r s having = record {
  tables = tables;
  from = from;
  fact = unwrap_or (fact_place tables from) 0;
  condition = bound_where r.condition;
  groups = map the_column r.groups;
  having = having;
  aggregates = aggregates_of r.outputs ++ having_aggregates r.having;
  items = bound_items 0 r.outputs s.items;
  orders = map (bound_order s.items) s.orders;
}

-- the query has a column for each name of the select
pub record IsBound (tables : List TableRules) (from : List ℕ) (r : Resolved) (s : Select) (q : QueryParts) : Type 0 where
  pub parts : q ≡ bound_from tables from r s q.having
  pub having : BindsHaving (aggregates_of r.outputs) r.having q.having

-- ---- what binding a leaf needs: that it fits one column

abbrev pub is_one : ResolvedName → Bool
is_one name = fits_one name.fit

-- an output: it is an aggregate of such columns, or a group column
abbrev pub is_bindable_output : ResolvedOutput → Bool
is_bindable_output (output.Column name group) = is_some group
is_bindable_output (output.Aggregate a) = list_all is_one (aggregate_columns a)

-- an operand of HAVING
abbrev pub is_bindable_operand : Operand ResolvedOutput → Bool
is_bindable_operand o = list_all is_bindable_output (operand_columns o)

abbrev pub filter_operands : {C : Type 0} → Option (Filter C) → List (Operand C)
filter_operands None = []
filter_operands {C} (Some c) = operands (Operand C) c

-- a select of which each name fits one column, and each column that stands in no aggregate is a group column
pub record IsBindable (r : Resolved) : Type 0 where
  pub outputs : list_all is_bindable_output r.outputs ≡ true
  pub condition : list_all is_one (filter_columns r.condition) ≡ true
  pub groups : list_all is_one r.groups ≡ true
  pub having : list_all is_bindable_operand (filter_operands r.having) ≡ true

-- the query of such a select, or the least refusal of ORDER BY or of the fact table
abbrev pub BindsParts : List TableRules → List ℕ → Resolved → Select → Result QueryParts BindFault → Type 0
BindsParts tables from r s (Ok q) = IsBound tables from r s q × (first_of (part_faults tables from s) ≡ None)
BindsParts tables from r s (Err f) = Says (first_of (part_faults tables from s)) f

-- the query of such a select, or the least refusal that is judged of it
abbrev pub BindsResolved : List TableRules → List ℕ → Resolved → Select → Result QueryParts BindFault → Type 0
BindsResolved tables from r s (Ok q) = IsBound tables from r s q × (first_of (shape_faults q r s) ≡ None)
BindsResolved tables from r s (Err f) = Says (first_of (shape_faults (draft tables from r) r s)) f
