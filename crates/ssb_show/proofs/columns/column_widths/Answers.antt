use Rattle.std.proofs.Common.{◌∙◌, ◌++◌, ◌∷◌, [], ap₂, sym, zero-add}
use Rattle.std.proofs.lemmas.List.FromFn.{map-range_with_len_more}
use Rattle.ssb_show.proofs.columns.column_widths.Goals as goal

pub loop-place-preserved : goal.loop-place-preserved
loop-place-preserved c =
    c.in_ok-push-in-Columns.ensures.items ∙ ap₂ (λ ws w. ws ++ w ∷ []) c.loop-place.invariant c.column_width.ensures
    ∙ sym (map-range_with_len_more _ 0 c.loop-place.place c.loop-place.place (zero-add c.loop-place.place))
