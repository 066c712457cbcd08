use Rattle.std.proofs.Common.{◌≡◌, ◌∙◌, inl, inr, ap, sym, true≢false}
use Rattle.std.specs.Ordering.{max_by_ordering}
use Rattle.ssb_cells.proofs.OrderLaws.{cell-same}
use Rattle.ssb_groups.specs.Aggregates.{greater}
use Rattle.ssb_groups.specs.Keys.{kept_total, spelt_cell}
use Rattle.ssb_groups.specs.Refs.{values_at}
use Rattle.ssb_groups.proofs.joining.replaces_greatest.Goals as goal

pub returns-in-Equal : goal.returns-in-Equal
returns-in-Equal c =
    let values = values_at c.args.tables.now c.args.column in
    let total = spelt_cell values (kept_total c.args.total) in
    let more = spelt_cell values (kept_total c.args.more) in
    let kept : greater total more ≡ total = elim c.in-Equal.is [
      | inl tie ↦ ap (λ o. max_by_ordering o total more) (sym c.order.ensures ∙ tie) ∙ sym (cell-same total more (sym c.order.ensures ∙ tie))
      | inr past ↦ ap (λ o. max_by_ordering o total more) (sym c.order.ensures ∙ past)
    ] in
    record { yes = λ h. absurd (true≢false (sym h)); no = λ h. kept }
