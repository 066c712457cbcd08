-- The text of a plan: a line a step, in the order in which they are done.
-- Source: own; docs/SQL.md shows one.
use Rattle.std.specs.Prelude.{◌≡◌, ◌++◌, ◌∷◌, [], ◌+◌, ◌||◌, ℕ, Bool, true, false, if◌then◌else◌, List, Option, None, Some, codes, decimal, length, map, nat_eq, nat_lt, not, slice_get}
use Rattle.std.specs.Bool.{beq}
use Rattle.ssb_catalog.specs.Shapes.{TableShape}
use Rattle.ssb_cells.specs.Tables.{Columns, rows_in}
use Rattle.ssb_plan.specs.Filters.{tests_rows}
use Rattle.ssb_plan.specs.Only.{only_at}
use Rattle.ssb_plan.specs.declared.column_filter.ColumnFilter.{ColumnFilter}
use Rattle.ssb_plan.specs.declared.table_filter.TableFilter.{TableFilter}
use Rattle.ssb_plan.specs.Build.{IsPlan}
use Rattle.ssb_plan.specs.Inputs.{column_ref}
use Rattle.ssb_plan.specs.JobShape.{JobShape, from_tables}
use Rattle.ssb_plan.specs.declared.dimension.Dimension.{Dimension as AnyDimension}
use Rattle.ssb_plan.specs.declared.join.Join.{Join}
use Rattle.ssb_plan.specs.declared.plan.Access.{Access}
use Rattle.ssb_plan.specs.declared.plan.Access.TheVariants.{Fact, Dimension}
use Rattle.ssb_plan.specs.declared.plan.Plan.{Plan}
use Rattle.ssb_query.specs.declared.column.BoundColumn.{BoundColumn}
use Rattle.ssb_query.specs.declared.query.BoundItem.{BoundItem}
use Rattle.ssb_query.specs.declared.query.BoundOrder.{BoundOrder}
use Rattle.ssb_query.specs.declared.query.Origin.{Origin}
use Rattle.ssb_query.specs.declared.query.QueryParts.{QueryParts}
use Rattle.ssb_spelling.specs.Conditions.{condition_text, operand_text, origin_text, parted}
use Rattle.ssb_spelling.specs.Titles.{Bytes, aggregate_title, column_name, item_title}
use Rattle.ssb_trees.specs.Conditions.{Filter}
use Rattle.ssb_trees.specs.Lists.{concat}
use Rattle.ssb_trees.specs.declared.operand.Operand.{Operand}
use Rattle.ssb_explain.specs.GroupCount.{groups_by}
use Rattle.ssb_explain.specs.Members.{members, parted_or_nothing, table_or_none}

-- ---- lines

-- a step of a table, or of what the head says
abbrev pub line : Bytes → Bytes → Bytes
line head text = head ++ (codes ": " ++ (text ++ codes "\n"))

abbrev pub name_or_none : Option TableShape → Bytes
name_or_none None = []
name_or_none (Some t) = t.name

abbrev pub table_named : List TableShape → Option ℕ → Bytes
table_named c None = []
table_named c (Some number) = name_or_none (slice_get c number)

-- the name of the table at a place of FROM
abbrev pub table_name : List TableShape → QueryParts → ℕ → Bytes
table_name c q place = table_named c (slice_get q.from place)

-- the table at a place of FROM
abbrev pub table_in : JobShape → ℕ → Columns
table_in j place = table_or_none (slice_get (from_tables j) place)

abbrev pub named : List TableShape → QueryParts → BoundColumn → Bytes
named c q = column_name c q.from

abbrev pub column_of : ℕ → ℕ → BoundColumn
column_of place column = record { table = place; column = column }

-- a condition of WHERE
abbrev pub where_text : List TableShape → QueryParts → Filter BoundColumn → Bytes
where_text c q = condition_text (Operand BoundColumn) (operand_text (named c q))

-- ---- what is asked of one table alone

-- the values of a column that pass
abbrev pub column_line : List TableShape → JobShape → ℕ → ColumnFilter → Bytes
column_line c j place f = line (table_name c j.query place) (named c j.query (column_of place f.column) ++ (codes " in " ++ parted_or_nothing (members (table_in j place) f)))

-- a conjunct over no table, which is one that reads no column but of a place behind FROM, is tested by each table, and told of the fact table alone
abbrev pub is_told : QueryParts → ℕ → Filter BoundColumn → Bool
is_told q place c = nat_eq place q.fact || not (only_at (length q.from) c)

abbrev pub other_line : List TableShape → JobShape → ℕ → Filter BoundColumn → Bytes
other_line c j place other = if is_told j.query place other then line (table_name c j.query place) (where_text c j.query other) else []

-- the filters of columns, and then the conjuncts that are evaluated
abbrev pub filter_text : List TableShape → JobShape → ℕ → TableFilter → Bytes
filter_text c j place f = concat (map (column_line c j place) f.columns.items) ++ concat (map (other_line c j place) f.others.items)

-- ---- dimensions

-- how many rows stay, of how many
abbrev pub kept_text : JobShape → ℕ → ℕ → Bytes
kept_text j place kept = decimal kept ++ (codes " of " ++ (decimal (rows_in (table_in j place)) ++ codes " rows by "))

-- a join, the fact table's column first
abbrev pub equality_text : List TableShape → JobShape → ℕ → Join → Bytes
equality_text c j place join = named c j.query (column_of j.query.fact join.column) ++ (codes " = " ++ named c j.query (column_of place join.key))

abbrev pub dimension_line : List TableShape → JobShape → ℕ → AnyDimension → Bytes
dimension_line c j place d = line (table_name c j.query place) (kept_text j place d.kept ++ equality_text c j place d.join)

abbrev pub dimension_text : List TableShape → JobShape → ℕ → AnyDimension → Bytes
dimension_text c j place d = dimension_line c j place d ++ filter_text c j place d.filter

-- that of a dimension that has conjuncts of its own, or has none
abbrev pub access_text : List TableShape → JobShape → Bool → ℕ → Access → Bytes
access_text c j filtered place Fact = []
access_text c j filtered place (Dimension d) = if beq (tests_rows d.filter) filtered then dimension_text c j place d else []

-- of those from a place of FROM on
abbrev pub accesses_from : List TableShape → JobShape → Bool → ℕ → List Access → Bytes
accesses_from c j filtered place [] = []
accesses_from c j filtered place (p ∷ ps) = access_text c j filtered place p ++ accesses_from c j filtered (place + 1) ps

-- ---- the whole

abbrev pub fact_line : List TableShape → JobShape → Bytes
fact_line c j = line (table_name c j.query j.query.fact) (decimal (rows_in (table_in j j.query.fact)) ++ codes " rows")

-- a line of texts, where there are any
abbrev pub list_line : Bytes → List Bytes → Bytes
list_line head [] = []
list_line head (t ∷ ts) = line head (parted (codes ", ") (t ∷ ts))

abbrev pub having_line : List TableShape → QueryParts → Option (Filter Origin) → Bytes
having_line c q None = []
having_line c q (Some h) = line (codes "having") (condition_text (Operand Origin) (operand_text (origin_text c q)) h)

abbrev pub title_or_none : List TableShape → QueryParts → Option BoundItem → Bytes
title_or_none c q None = []
title_or_none c q (Some item) = item_title c q item

abbrev pub direction : Bool → Bytes
direction true = codes " desc"
direction false = []

abbrev pub order_text : List TableShape → QueryParts → BoundOrder → Bytes
order_text c q o = title_or_none c q (slice_get q.items o.item) ++ direction o.descending

-- a conjunct that is tested on whole combinations
abbrev pub residual_line : List TableShape → JobShape → Filter BoundColumn → Bytes
residual_line c j rest = line (codes "residual") (where_text c j.query rest)

-- the fact table and what is asked of it, the dimensions with conjuncts of their own and then the others, and the conjuncts that are tested on whole combinations
abbrev pub join_text : List TableShape → JobShape → Plan → Bytes
join_text c j p = fact_line c j ++ (filter_text c j j.query.fact p.filter ++ (accesses_from c j true 0 p.accesses.items ++ (accesses_from c j false 0 p.accesses.items
    ++ concat (map (residual_line c j) p.rest.items))))

-- the most groups that GROUP BY may make, at most one for each row of the fact table
abbrev pub group_count : JobShape → ℕ
group_count j = groups_by j.tables (rows_in (table_in j j.query.fact)) (map (column_ref j.query) j.query.groups)

-- from so many groups on batches are told of
abbrev pub many_groups : ℕ
many_groups = 1000

abbrev pub batch_line : ℕ → Bytes
batch_line groups = if nat_lt groups many_groups then [] else line (codes "batch") (codes "up to " ++ (decimal groups ++ codes " groups, so 8 or 64 may be faster"))

-- what is done with the groups
abbrev pub grouped_text : List TableShape → QueryParts → Bytes
grouped_text c q = list_line (codes "aggregates") (map (aggregate_title (named c q)) q.aggregates) ++ (having_line c q q.having ++ list_line (codes "order") (map (order_text c q) q.orders))

-- what is made of the rows that are kept
abbrev pub answer_text : List TableShape → JobShape → Bytes
answer_text c j = list_line (codes "groups") (map (named c j.query) j.query.groups) ++ (batch_line (group_count j) ++ grouped_text c j.query)

-- the text of a plan of a query over tables
abbrev pub explained : List TableShape → JobShape → Plan → Bytes
explained c j p = join_text c j p ++ answer_text c j

-- a text is that of a plan which is right for the query over the tables
pub record IsExplained (c : List TableShape) (j : JobShape) (text : Bytes) : Type 0 where
  pub plan : Plan
  pub right : IsPlan j.query j.tables plan
  pub same : text ≡ explained c j plan
