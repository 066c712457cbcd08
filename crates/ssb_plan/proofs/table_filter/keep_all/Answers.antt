use Rattle.std.proofs.Common.{◌∙◌, ◌<◌, subst, sym}
use Rattle.std.specs.List.{All}
use Rattle.std.proofs.lemmas.List.Elements.{All-filter}
use Rattle.ssb_cells.specs.Tables.{rows_in}
use Rattle.ssb_plan.specs.Filters.{IsThere, passes_column}
use Rattle.ssb_plan.proofs.TableRows.{all-taken, filter-true, one-more}
use Rattle.ssb_plan.proofs.table_filter.keep_all.Goals as goal

pub loop-filter-init : goal.loop-filter-init
loop-filter-init c = record { there = c.requires.rows; left = λ p same. sym (filter-true c.args.rows.now.items) }

pub keep-requires-clause-there : goal.keep-requires-clause-there
keep-requires-clause-there c = subst (IsThere c.args.table.now) (sym c.filter-item.is) (c.requires.there c.loop-filter.filter-index c.filter-item.result c.loop-filter-test.true)

pub keep-requires-clause-rows : goal.keep-requires-clause-rows
keep-requires-clause-rows c = c.loop-filter.invariant.there

pub loop-filter-preserved : goal.loop-filter-preserved
loop-filter-preserved c = record {
  there = subst (All (λ r. r < rows_in c.args.table.now)) (sym c.keep.ensures.rows) (All-filter (passes_column c.args.table.now c.filter-item.result) (λ r. r < rows_in c.args.table.now) c.loop-filter.rows.items c.loop-filter.invariant.there);
  left = λ p same. c.keep.ensures.rows ∙ one-more c.args.table.now p c.args.columns.now same c.filter-item.result c.loop-filter.filter-index c.loop-filter-test.true c.filter-item.is c.args.rows.now.items c.loop-filter.rows.items (c.loop-filter.invariant.left p same) c.keep.ensures.stand;
}

pub returns : goal.returns
returns c = λ p same. c.loop-filter.invariant.left p same ∙ all-taken p c.args.columns.now c.loop-filter.filter-index c.args.rows.now.items c.loop-filter-test.false
