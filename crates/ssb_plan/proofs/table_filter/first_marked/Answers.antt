use Rattle.std.proofs.Common.{◌∙◌, ◌-◌, refl, sym, take}
use Rattle.std.specs.List.{list_all, range_with_len}
use Rattle.ssb_plan.specs.Filters.{passes_column}
use Rattle.ssb_plan.proofs.TableRows.{filter-true}
use Rattle.ssb_plan.proofs.table_filter.first_marked.Goals as goal

pub list_rows-requires-clause-none : goal.list_rows-requires-clause-none
list_rows-requires-clause-none c = (c.mark_leading-marked.ensures.marks (passes_column c.args.table.now) (λ k d lt r stands. refl) (c.all-marks.ensures c.args.from)).none

pub returns-then-marked-gt0-clause-rows : goal.returns-then-marked-gt0-clause-rows
returns-then-marked-gt0-clause-rows c = λ p same. c.in_ok-list_rows.ensures (λ r. list_all (λ f. p f r) (take c.mark_leading-marked.result c.args.columns.now)) (c.mark_leading-marked.ensures.marks p same (c.all-marks.ensures c.args.from))

pub returns-clause-rows : goal.returns-clause-rows
returns-clause-rows c = λ p same. c.in_ok-fill.ensures ∙ sym (filter-true (range_with_len c.args.from (c.args.end - c.args.from)))
