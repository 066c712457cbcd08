use Rattle.std.proofs.Common.{◌<◌, ◌∙◌, sym, ap, subst}
use Rattle.std.specs.List.{range_with_len}
use Rattle.ssb_pipeline.specs.Morsels.{morsel_count, row_cut}
use Rattle.ssb_pipeline.proofs.Cuts.{all-pieces, one-piece}
use Rattle.ssb_pipeline.proofs.MorselFacts.{fewest, row-begins, row-end, row-rises}
use Rattle.ssb_pipeline.proofs.law.rows_in_morsels.Goals as goal

pub returns-clause-one : goal.returns-clause-one
returns-clause-one c = λ rows size pos r lt.
    one-piece (row_cut rows size) (row-begins rows size) (row-rises rows size) (morsel_count rows size) r (subst (λ n. r < n) (sym (row-end rows size pos)) lt)

pub returns-clause-all : goal.returns-clause-all
returns-clause-all c = λ rows size pos.
    all-pieces (row_cut rows size) (row-begins rows size) (row-rises rows size) (morsel_count rows size) ∙ ap (range_with_len 0) (row-end rows size pos)

pub returns-clause-fewest : goal.returns-clause-fewest
returns-clause-fewest c = fewest
