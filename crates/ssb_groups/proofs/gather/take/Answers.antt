use Rattle.std.proofs.Common.{◌≡◌, ◌∙◌, List, [], ◌∷◌, Bool, true, false, refl, Option, None, Some, is_some, not, sym, ap, subst}
use Rattle.ssb_trees.specs.declared.aggregate.Aggregate.{Aggregate}
use Rattle.ssb_cells.specs.Cell.{Cell}
use Rattle.ssb_query.specs.declared.column.BoundColumn.{BoundColumn}
use Rattle.ssb_trees.specs.declared.aggregate.Aggregate.TheVariants as aggregate
use Rattle.ssb_conditions.specs.Rows.{column_value}
use Rattle.ssb_plan.specs.Inputs.{input_of}
use Rattle.ssb_plan.specs.JobShape.{JobShape, from_tables}
use Rattle.ssb_groups.specs.Aggregates.{agg}
use Rattle.ssb_groups.specs.Alone.{texts_by}
use Rattle.ssb_groups.specs.Gathering.{IsTaken}
use Rattle.ssb_groups.specs.Joining.{joining_of, values_by}
use Rattle.ssb_groups.specs.Keys.{IsKept, spelt_cell}
use Rattle.ssb_groups.specs.Outcomes.{kept_outcome}
use Rattle.ssb_groups.specs.Refs.{input_texts, input_value}
use Rattle.ssb_groups.specs.Seen.{argument}
use Rattle.ssb_groups.specs.Stands.{is_over, IsRanged}
use Rattle.ssb_groups.specs.Value.{known}
use Rattle.ssb_keys.specs.declared.kept.Kept.{Kept}
use Rattle.ssb_groups.proofs.InputFacts.{input-value, texts-are}
use Rattle.ssb_groups.proofs.TakenFacts.{kept-or, same-alone}
use Rattle.ssb_groups.proofs.gather.take.Goals as goal

none-over : (values : List Cell) (o : Option Kept) (b : Bool) → is_some o ≡ not b → b ≡ is_over (kept_outcome values o)
none-over values None true e = refl
none-over values None false e = cc
none-over values (Some c) true e = cc
none-over values (Some c) false e = refl

pub returns-in-Of : goal.returns-in-Of
returns-in-Of c =
    let j : JobShape = c.args.job.now in
    let cell : BoundColumn → Cell = column_value (from_tables j) c.args.row.now in
    let f = c.in-Of.function in
    let e = c.in-Of.field-1 in
    let values = input_texts j.tables c.args.input.now in
    let input : c.args.input.now ≡ input_of j.query (aggregate.Of f e) = c.requires.input ∙ ap (input_of j.query) c.in-Of.is in
    let texts : values_by j.tables (joining_of j (aggregate.Of f e)) ≡ texts_by f values = texts-are j f e ∙ ap (λ i. texts_by f (input_texts j.tables i)) (sym input) in
    let value : input_value j c.args.row.now c.args.input.now ≡ argument cell (aggregate.Of f e) = ap (input_value j c.args.row.now) input ∙ input-value j c.args.row.now (aggregate.Of f e) in
    let o = c.value-value.result in
    let alone : spelt_cell (texts_by f values) c.alone.result ≡ agg (aggregate.Of f e) (known (spelt_cell values c.unwrap_or.result) ∷ []) = (c.alone.ensures values).spelt e in
    let is : IsTaken j c.args.row.now (aggregate.Of f e) (record { over = c.is_none.result; total = c.alone.result }) =
    record {
      over = none-over values o c.is_none.result c.is_none.ensures ∙ ap is_over (c.value-value.ensures.value ∙ value);
      alone =
          ap (λ v. spelt_cell v c.alone.result) texts ∙ alone ∙ ap (λ k. agg (aggregate.Of f e) (known (spelt_cell values k) ∷ [])) c.unwrap_or.ensures ∙ same-alone f e values o
          ∙ ap (λ x. agg (aggregate.Of f e) (x ∷ [])) (c.value-value.ensures.value ∙ value);
      kept =
          subst (λ v. IsKept v c.alone.result) (sym texts)
          ((c.alone.ensures values).kept (subst (IsKept values) (sym c.unwrap_or.ensures) (kept-or values o c.value-value.ensures.kept)));
      ranged = subst IsRanged value c.value-value.ensures.ranged;
    } in
    subst (λ (a : Aggregate BoundColumn). IsTaken j c.args.row.now a (record { over = c.is_none.result; total = c.alone.result })) (sym c.in-Of.is) is
