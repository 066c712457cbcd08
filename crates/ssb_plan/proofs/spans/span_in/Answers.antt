use Rattle.std.proofs.Common.{◌≡◌, ◌∙◌, ◌+◌, ◌<◌, ℤ, length, get_or, take, refl, sym, ap, arith, rules, w64, to_z, of_z}
use Rattle.std.proofs.lemmas.List.{take_all}
use Rattle.std.proofs.lemmas.List.Sums.{fold_more}
use Rattle.std.proofs.lemmas.Option.{get_or_from_slice_get}
use Rattle.ssb_cells.specs.Cell.{null}
use Rattle.ssb_cells.specs.Values.{cell_of}
use Rattle.ssb_cells.specs.declared.value.Value.{Value}
use Rattle.ssb_cells.specs.declared.value.Value.TheVariants as values
use Rattle.ssb_plan.specs.Spans.{no_span, span_of, with_value}
use Rattle.ssb_plan.specs.declared.index.Span.{Span}
use Rattle.ssb_plan.proofs.spans.span_in.Goals as goal
use Rattle.ssb_plan.proofs.spans.span_in.Goals.{in-Int, in_default}

-- a value that is no number leaves a span as it is
other : (s : Span) (v : Value) → ((n : ℤ) → v ≡ values.Int n → ⊥) → s ≡ with_value s (cell_of v)
other s values.Null not = refl
other s (values.Int n) not = absurd (not n refl)
other s (values.Text t) not = refl

pub loop-row-preserved : goal.loop-row-preserved
loop-row-preserved c =
    let vs = c.args.column.now.values in
    let i = c.loop-row.row in
    let lt : i < length vs = omega (arith, c.loop-row-test.true, c.len-row-end.ensures) in
    let more : span_of (take (i + 1) vs) ≡ with_value (span_of (take i vs)) (get_or vs i null) = fold_more with_value no_span vs i null lt in
    let here : get_or vs i null ≡ cell_of c.get.result = get_or_from_slice_get vs i (cell_of c.get.result) null c.get.ensures in
    let next : with_value c.loop-row.span (cell_of c.get.result) ≡ span_of (take (i + 1) vs) = ap (λ s. with_value s (cell_of c.get.result)) c.loop-row.invariant ∙ ap (with_value (span_of (take i vs))) (sym here) ∙ sym more in
    elim c.match-get.branch [
      | in-Int w ↦
          let same : to_z w64 (of_z w64 w.in-Int.number) ≡ w.in-Int.number = search rules in
          w.span-is ∙ (simp same at w.with-span.ensures.value) ∙ ap (λ v. with_value c.loop-row.span (cell_of v)) (sym w.in-Int.is) ∙ next
      | in_default w ↦ w.span-is ∙ other c.loop-row.span c.get.result w.in_default.not-Int ∙ next
    ]

pub returns : goal.returns
returns c = c.loop-row.invariant ∙ ap span_of (take_all c.loop-row.row c.args.column.now.values (omega (arith, c.loop-row-test.false, c.len-row-end.ensures)))
