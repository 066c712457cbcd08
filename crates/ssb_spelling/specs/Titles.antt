-- The titles of the select columns.
-- Source: own. The forms are those of SQL-92, 6.12 <numeric value expression>: below a sign stands a primary, in a product factors, in a chain terms, and what is
-- no such form stands in parentheses: so a title is made to be read again as the same aggregate. No sign stands directly behind another, since `--` begins a
-- comment.
use Rattle.std.specs.Prelude.{ℕ, Bool, true, false, List, [], ◌∷◌, ◌++◌, map, Option, None, Some, slice_get, codes}
use Rattle.std.specs.Fmt.{decimal}
use Rattle.ssb_terms.specs.declared.operator.Adding.{Adding}
use Rattle.ssb_terms.specs.declared.operator.Adding.TheVariants as adding
use Rattle.ssb_catalog.specs.Shapes.{TableShape}
use Rattle.ssb_catalog.specs.declared.catalog.ColumnDef.{ColumnDef}
use Rattle.ssb_trees.specs.Lists.{concat}
use Rattle.ssb_trees.specs.declared.aggregate.Aggregate.{Aggregate}
use Rattle.ssb_trees.specs.declared.aggregate.Aggregate.TheVariants as aggregate
use Rattle.ssb_trees.specs.declared.aggregate.SetFunction.{SetFunction}
use Rattle.ssb_trees.specs.declared.aggregate.SetFunction.TheVariants as function
use Rattle.ssb_trees.specs.declared.expr.Expr.{Expr}
use Rattle.ssb_trees.specs.declared.expr.Expr.TheOpen.{Expr-F, Step-F}
use Rattle.ssb_trees.specs.declared.expr.Expr.TheFolds.{fold-Expr, fold-Step}
use Rattle.ssb_trees.specs.declared.expr.Step.{Step}
use Rattle.ssb_query.specs.declared.column.BoundColumn.{BoundColumn}
use Rattle.ssb_query.specs.declared.query.BoundItem.{BoundItem}
use Rattle.ssb_query.specs.declared.query.Origin.{Origin}
use Rattle.ssb_query.specs.declared.query.Origin.TheVariants as origin
use Rattle.ssb_query.specs.declared.query.QueryParts.{QueryParts}
use Rattle.ssb_spelling.specs.declared.form.Form.{Form}
use Rattle.ssb_spelling.specs.declared.form.Form.TheVariants as form

abbrev pub Bytes : Type 0
Bytes = List ℕ

-- ---- the name of a column: that of the catalog, without its table; of a place where there is none, nothing

abbrev pub name_or_none : Option ColumnDef → Bytes
name_or_none None = []
name_or_none (Some column) = column.name

abbrev pub name_in_table : Option TableShape → ℕ → Bytes
name_in_table None place = []
name_in_table (Some table) place = name_or_none (slice_get table.columns place)

abbrev pub name_in : List TableShape → Option ℕ → ℕ → Bytes
name_in catalog None place = []
name_in catalog (Some number) place = name_in_table (slice_get catalog number) place

-- of a column of a table of FROM, which has its tables by their numbers in the catalog
abbrev pub column_name : List TableShape → List ℕ → BoundColumn → Bytes
column_name catalog from x = name_in catalog (slice_get from x.table) x.column

-- ---- an expression

-- its spelling, and which form that has
pub record Spelt : Type 0 where
  pub form : Form
  pub text : Bytes

abbrev pub spelt : Form → Bytes → Spelt
spelt f text = record { form = f; text = text }

-- a primary is a column, a number, or anything in parentheses
abbrev pub is_primary : Form → Bool
is_primary form.Primary = true
is_primary form.Factor = false
is_primary form.Term = false
is_primary form.Chain = false

-- a factor is a primary, with a sign or without
abbrev pub is_factor : Form → Bool
is_factor form.Primary = true
is_factor form.Factor = true
is_factor form.Term = false
is_factor form.Chain = false

-- a term is a factor, or a product of factors
abbrev pub is_term : Form → Bool
is_term form.Primary = true
is_term form.Factor = true
is_term form.Term = true
is_term form.Chain = false

-- bare where it may be, or else in parentheses
abbrev pub closed_unless : Bool → Bytes → Bytes
closed_unless true text = text
closed_unless false text = codes "(" ++ text ++ codes ")"

abbrev pub as_primary : Spelt → Bytes
as_primary s = closed_unless (is_primary s.form) s.text

abbrev pub as_factor : Spelt → Bytes
as_factor s = closed_unless (is_factor s.form) s.text

abbrev pub as_term : Spelt → Bytes
as_term s = closed_unless (is_term s.form) s.text

abbrev pub operator : Adding → Bytes
operator adding.Plus = codes " + "
operator adding.Minus = codes " - "

-- factors, each behind an operator
abbrev pub times : List Spelt → Bytes
times [] = []
times (s ∷ ss) = (codes " * " ++ as_factor s) ++ times ss

abbrev pub product_of : List Spelt → Bytes
product_of [] = []
product_of (first ∷ rest) = as_factor first ++ times rest

abbrev pub expr_layer : (BoundColumn → Bytes) → Expr-F BoundColumn Spelt Bytes → Spelt
expr_layer name (Expr-F.Column x) = spelt form.Primary (name x)
expr_layer name (Expr-F.Number n) = spelt form.Primary (decimal n)
expr_layer name (Expr-F.Positive part) = spelt form.Factor (codes "+" ++ as_primary part)
expr_layer name (Expr-F.Negative part) = spelt form.Factor (codes "-" ++ as_primary part)
expr_layer name (Expr-F.Chain first steps) = spelt form.Chain (as_term first ++ concat steps)
expr_layer name (Expr-F.Times factors) = spelt form.Term (product_of factors)

abbrev pub step_layer : Step-F BoundColumn Spelt Bytes → Bytes
step_layer s = operator s.adding ++ as_term s.term

-- an expression over columns of these names
abbrev pub spelling : (BoundColumn → Bytes) → Expr BoundColumn → Spelt
spelling name = fold-Expr BoundColumn Spelt Bytes (expr_layer name) step_layer

-- a further term of a chain, with the sign before it
abbrev pub step_spelling : (BoundColumn → Bytes) → Step BoundColumn → Bytes
step_spelling name = fold-Step BoundColumn Spelt Bytes (expr_layer name) step_layer

-- ---- titles

abbrev pub function_name : SetFunction → Bytes
function_name function.Sum = codes "sum"
function_name function.Count = codes "count"
function_name function.Min = codes "min"
function_name function.Max = codes "max"

abbrev pub aggregate_title : (BoundColumn → Bytes) → Aggregate BoundColumn → Bytes
aggregate_title name aggregate.Rows = codes "count(*)"
aggregate_title name (aggregate.Of f e) = function_name f ++ closed_unless false (spelling name e).text

abbrev pub title_or_none : (BoundColumn → Bytes) → Option (Aggregate BoundColumn) → Bytes
title_or_none name None = []
title_or_none name (Some a) = aggregate_title name a

-- the title of what has no name: an aggregate by its spelling
abbrev pub origin_title : List TableShape → QueryParts → Origin → Bytes
origin_title catalog q (origin.Group place) = []
origin_title catalog q (origin.Aggregate place) = title_or_none (column_name catalog q.from) (slice_get q.aggregates place)

abbrev pub name_or : Option Bytes → Bytes → Bytes
name_or None other = other
name_or (Some name) other = name

-- the title of a select column: its AS name or its column's, or else its aggregate's
abbrev pub item_title : List TableShape → QueryParts → BoundItem → Bytes
item_title catalog q item = name_or item.name (origin_title catalog q item.origin)

-- the titles of the select columns of a query over a catalog, from left to right
abbrev pub column_titles : List TableShape → QueryParts → List Bytes
column_titles catalog q = map (item_title catalog q) q.items
