-- Queries and their tables may go to other threads, and be shared by them.
use denote.RattleType.{RattleType}
use denote.Struct.Field.{row_field}
use denote.Hole.{as_row}
use denote.Hole.Fix.{holes}
use denote.Hole.FixLaws.{layer_row}
use denote.Param.Send.{IsSend, IsSync, sendable, view_send, view_sync}
use denote.Param.SendFields.{VariantsHave, as_row_send, as_row_sync, declared_send, declared_sync}
use Rattle.std.proofs.Crossing.{crosses, Box-send, Box-sync, Vec-send, Vec-sync}
use Rattle.sqlite_items.specs.contracts.boxed.Boxed as Boxed
use Rattle.sqlite_items.specs.contracts.boxed.Boxed.TheInside as InBoxed
use Rattle.sqlite_items.specs.contracts.items.Items as Items
use Rattle.sqlite_items.specs.contracts.items.Items.TheInside as InItems
use Rattle.ssb_packed.specs.contracts.codes.Codes as Codes
use Rattle.ssb_packed.specs.contracts.codes.Codes.TheInside as InCodes
use Rattle.ssb_cells.specs.contracts.column.Column as Column
use Rattle.ssb_cells.specs.contracts.column.Column.TheInside as InColumn
use Rattle.ssb_cells.specs.contracts.column.Stored as Stored
use Rattle.ssb_cells.specs.contracts.dictionary.Dictionary as Dictionary
use Rattle.ssb_cells.specs.contracts.dictionary.Dictionary.TheInside as InDictionary
use Rattle.ssb_packed.specs.contracts.nulls.Nulls as Nulls
use Rattle.ssb_packed.specs.contracts.numbers.Kept as Kept
use Rattle.ssb_packed.specs.contracts.numbers.Numbers as Numbers
use Rattle.ssb_packed.specs.contracts.numbers.Numbers.TheInside as InNumbers
use Rattle.ssb_cells.specs.contracts.texts.Texts as Texts
use Rattle.ssb_terms.specs.contracts.name.Name as Name
use Rattle.ssb_cells.specs.contracts.table.Table as Table
use Rattle.ssb_cells.specs.contracts.table.Table.TheInside as InTable
use Rattle.ssb_terms.specs.contracts.literal.Literal as Literal
use Rattle.ssb_query.specs.contracts.column.BoundColumn as BoundColumn
use Rattle.ssb_trees.specs.contracts.operand.Operand as Operand
use Rattle.ssb_trees.specs.contracts.condition.Condition as Condition
use Rattle.ssb_trees.specs.contracts.condition.Condition.TheKnot as condition_knot
use Rattle.ssb_trees.specs.contracts.expr.Expr as Expr
use Rattle.ssb_trees.specs.contracts.expr.Expr.TheKnot as expr_knot
use Rattle.ssb_trees.specs.contracts.aggregate.Aggregate as Aggregate
use Rattle.ssb_trees.specs.contracts.aggregate.SetFunction as SetFunction
use Rattle.ssb_plan.specs.contracts.input.ColumnRef as ColumnRef
use Rattle.ssb_query.specs.contracts.query.BoundItem as Item
use Rattle.ssb_query.specs.contracts.query.Origin as Origin
use Rattle.ssb_query.specs.contracts.query.Query as Query
use Rattle.ssb_query.specs.contracts.query.Query.TheInside as InQuery
use Rattle.ssb_query.specs.contracts.query.QueryParts as QueryParts
use Rattle.ssb_query.specs.contracts.query.TableRules as TableRules
use Rattle.ssb_trees.specs.declared.condition.Condition.TheBlock.{member-Condition}
use Rattle.ssb_trees.specs.declared.expr.Expr.TheBlock.{member-Expr, member-Step}
use Rattle.ssb_pipeline.proofs.Crossing.{Crosses, as_row_crosses, declared_crosses, fix_crosses, variants_crosses, vec, view_crosses}

kept : Crosses Kept.the_row
kept = (search (crosses, sendable) depth 20, search (crosses, sendable) depth 20)

numbers : Crosses Numbers.the_row
numbers = view_crosses InNumbers.the_row _ _ _ _ (declared_crosses InNumbers.the_type ((search (as_row_send, crosses, sendable) depth 20, search (as_row_sync, crosses, sendable) depth 20), (kept, tt)))

codes : Crosses Codes.the_row
codes = view_crosses InCodes.the_row _ _ _ _ (declared_crosses InCodes.the_type (numbers, tt))

dictionary : Crosses Dictionary.the_row
dictionary =
    view_crosses InDictionary.the_row _ _ _ _ (declared_crosses InDictionary.the_type (
      (search (as_row_send, crosses, sendable) depth 20, search (as_row_sync, crosses, sendable) depth 20),
      (
        (search (crosses, sendable) depth 20, search (crosses, sendable) depth 20),
        ((search (as_row_send, crosses, sendable) depth 20, search (as_row_sync, crosses, sendable) depth 20), tt),
      ),
    ))

texts : Crosses Texts.the_row
texts = declared_crosses Texts.the_type (dictionary, (codes, tt))

nulls : Crosses Nulls.the_row
nulls = (search (crosses, sendable) depth 20, search (crosses, sendable) depth 20)

stored : Crosses Stored.the_row
stored = variants_crosses Stored.enum ((numbers, tt), ((texts, tt), tt))

column : Crosses Column.the_row
column = view_crosses InColumn.the_row _ _ _ _ (declared_crosses InColumn.the_type (nulls, (stored, tt)))

pub table : Crosses Table.the_row
table = view_crosses InTable.the_row _ _ _ _ (declared_crosses InTable.the_type (vec Column.the_row column, tt))

literal : Crosses Literal.the_row
literal = (search (crosses, sendable) depth 20, search (crosses, sendable) depth 20)

operand : Crosses (Operand.the_row BoundColumn.the_row)
operand = (search (crosses, sendable) depth 20, search (crosses, sendable) depth 20)

name : Crosses Name.the_row
name = (search (crosses, sendable) depth 20, search (crosses, sendable) depth 20)

module _ (T : RattleType) where
  boxed : Crosses T → Crosses (Boxed.the_row T)
  boxed c = view_crosses (InBoxed.the_row T) _ _ _ _ (declared_crosses (InBoxed.the_type T) ((Box-send T c.0, Box-sync T c.1), tt))

  items_send : IsSend T → IsSend (Items.the_row T)
  items_send c = view_send (InItems.the_row T) _ _ _ _ (declared_send (InItems.the_type T) (Vec-send T c, tt))

  items_sync : IsSync T → IsSync (Items.the_row T)
  items_sync c = view_sync (InItems.the_row T) _ _ _ _ (declared_sync (InItems.the_type T) (Vec-sync T c, tt))

  items : Crosses T → Crosses (Items.the_row T)
  items c = (items_send c.0, items_sync c.1)

bound_column : Crosses BoundColumn.the_row
bound_column = (search (crosses, sendable) depth 20, search (crosses, sendable) depth 20)

-- an expression holds itself: each layer crosses where what it holds does
module _ (C : RattleType) (c : Crosses C) where
  module _ (E S : RattleType) (e : Crosses E) (s : Crosses S) where
    expr_parts : VariantsHave Crosses (expr_knot.type-Expr C E E E S E).parts
    expr_parts =
        let inner = as_row_crosses (row_field (Boxed.the_row E)) (boxed E e) in
        let steps = as_row_crosses (row_field (Items.the_row S)) (items S s) in
        let factors = as_row_crosses (row_field (Items.the_row E)) (items E e) in
        let x = as_row_crosses (row_field (as_row (row_field C))) (as_row_crosses (row_field C) c) in (
          (x, tt),
          (((search (as_row_send, crosses, sendable) depth 20, search (as_row_sync, crosses, sendable) depth 20), tt), ((inner, tt), ((inner, tt), ((inner, (steps, tt)), ((factors, tt), tt))))),
        )

  expr_holes : (i : expr_knot.the_members C) → Crosses (holes (expr_knot.ring C) i)
  expr_holes = fix_crosses (expr_knot.ring C) layers
    where
      layers : (i : expr_knot.the_members C) (h : expr_knot.the_members C → RattleType) → ((j : expr_knot.the_members C) → Crosses (h j)) → Crosses (layer_row (expr_knot.ring C) i h)
      layers member-Expr h all = let E = h member-Expr in let S = h member-Step in variants_crosses (expr_knot.type-Expr C E E E S E) (expr_parts E S (all member-Expr) (all member-Step))
      layers member-Step h all =
          let s = (all member-Expr).0 in
          let y = (all member-Expr).1 in
          let T = expr_knot.type-Step C (h member-Expr) in
          (declared_send T (search (s, as_row_send, crosses, sendable) depth 20), declared_sync T (search (y, as_row_sync, crosses, sendable) depth 20))

expr : Crosses (Expr.the_row BoundColumn.the_row)
expr =
    let C = BoundColumn.the_row in
    variants_crosses (Expr.enum C) (expr_parts C bound_column (expr_knot.hole-Expr C) (expr_knot.hole-Step C) (expr_holes C bound_column member-Expr) (expr_holes C bound_column member-Step))

pub column_ref : Crosses ColumnRef.the_row
column_ref = (search (crosses, sendable) depth 20, search (crosses, sendable) depth 20)

pub expr_of_refs : Crosses (Expr.the_row ColumnRef.the_row)
expr_of_refs =
    let C = ColumnRef.the_row in
    variants_crosses (Expr.enum C) (expr_parts C column_ref (expr_knot.hole-Expr C) (expr_knot.hole-Step C) (expr_holes C column_ref member-Expr) (expr_holes C column_ref member-Step))

-- and so does a condition
module _ (O : RattleType) (o : Crosses O) where
  module _ (C : RattleType) (c : Crosses C) where
    condition_parts : VariantsHave Crosses (condition_knot.type-Condition O C C C).parts
    condition_parts =
        let several = as_row_crosses (row_field (Items.the_row C)) (items C c) in
        let inner = as_row_crosses (row_field (Boxed.the_row C)) (boxed C c) in
        let literals = items Literal.the_row literal in
        let x = as_row_crosses (row_field (as_row (row_field O))) (as_row_crosses (row_field O) o) in (
          (several, tt),
          (
            (several, tt),
            (
              (inner, tt),
              (
                ((search (as_row_send, crosses, sendable) depth 20, search (as_row_sync, crosses, sendable) depth 20), (x, (x, tt))),
                (
                  (x, (x, (x, ((search (as_row_send, crosses, sendable) depth 20, search (as_row_sync, crosses, sendable) depth 20), tt)))),
                  ((x, (literals, ((search (as_row_send, crosses, sendable) depth 20, search (as_row_sync, crosses, sendable) depth 20), tt))), ((x, ((search (as_row_send, crosses, sendable) depth 20, search (as_row_sync, crosses, sendable) depth 20), tt)), tt)),
                ),
              ),
            ),
          ),
        )

  condition_holes : (i : condition_knot.the_members O) → Crosses (holes (condition_knot.ring O) i)
  condition_holes = fix_crosses (condition_knot.ring O) layers
    where
      layers : (i : condition_knot.the_members O) (h : condition_knot.the_members O → RattleType) → ((j : condition_knot.the_members O) → Crosses (h j)) → Crosses (layer_row (condition_knot.ring O) i h)
      layers member-Condition h all = let C = h member-Condition in variants_crosses (condition_knot.type-Condition O C C C) (condition_parts C (all member-Condition))

pub condition : Crosses (Condition.the_row (Operand.the_row BoundColumn.the_row))
condition =
    let O = Operand.the_row BoundColumn.the_row in
    variants_crosses (Condition.enum O) (condition_parts O operand (condition_knot.hole-Condition O) (condition_holes O operand member-Condition))

output : Crosses (Operand.the_row Origin.the_row)
output = (search (crosses, sendable) depth 20, search (crosses, sendable) depth 20)

having : Crosses (Condition.the_row (Operand.the_row Origin.the_row))
having =
    let O = Operand.the_row Origin.the_row in
    variants_crosses (Condition.enum O) (condition_parts O output (condition_knot.hole-Condition O) (condition_holes O output member-Condition))

condition_send : IsSend (Condition.the_row (Operand.the_row BoundColumn.the_row))
condition_send = condition.0

condition_sync : IsSync (Condition.the_row (Operand.the_row BoundColumn.the_row))
condition_sync = condition.1

having_send : IsSend (Condition.the_row (Operand.the_row Origin.the_row))
having_send = having.0

having_sync : IsSync (Condition.the_row (Operand.the_row Origin.the_row))
having_sync = having.1

rules : Crosses TableRules.the_row
rules = (search (items_send, crosses, sendable) depth 20, search (items_sync, crosses, sendable) depth 20)

set_function : Crosses SetFunction.the_row
set_function = (search (crosses, sendable) depth 20, search (crosses, sendable) depth 20)

aggregate : Crosses (Aggregate.the_row BoundColumn.the_row)
aggregate = variants_crosses (Aggregate.enum BoundColumn.the_row) (tt, ((set_function, (expr, tt)), tt))

item : Crosses Item.the_row
item = let s = name.0 in let y = name.1 in declared_crosses Item.the_type ((search (as_row_send, crosses, sendable) depth 20, search (as_row_sync, crosses, sendable) depth 20), ((search (s, as_row_send, crosses, sendable) depth 20, search (y, as_row_sync, crosses, sendable) depth 20), tt))

parts : Crosses QueryParts.the_row
parts =
    declared_crosses QueryParts.the_type (
      items TableRules.the_row rules,
      (
        (search (items_send, as_row_send, crosses, sendable) depth 20, search (items_sync, as_row_sync, crosses, sendable) depth 20),
        (
          (search (as_row_send, crosses, sendable) depth 20, search (as_row_sync, crosses, sendable) depth 20),
          (
            (search (condition_send, as_row_send, crosses, sendable) depth 20, search (condition_sync, as_row_sync, crosses, sendable) depth 20),
            (
              (search (items_send, as_row_send, crosses, sendable) depth 20, search (items_sync, as_row_sync, crosses, sendable) depth 20),
              (
                (search (having_send, as_row_send, crosses, sendable) depth 20, search (having_sync, as_row_sync, crosses, sendable) depth 20),
                (items (Aggregate.the_row BoundColumn.the_row) aggregate, (items Item.the_row item, ((search (items_send, as_row_send, crosses, sendable) depth 20, search (items_sync, as_row_sync, crosses, sendable) depth 20), tt))),
              ),
            ),
          ),
        ),
      ),
    )

pub query : Crosses Query.the_row
query = view_crosses InQuery.the_row _ _ _ _ (declared_crosses InQuery.the_type (parts, tt))
