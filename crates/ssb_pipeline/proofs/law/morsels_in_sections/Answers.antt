use Rattle.std.proofs.Common.{◌<◌, ◌∙◌, sym, ap, subst}
use Rattle.std.specs.List.{range_with_len}
use Rattle.ssb_pipeline.specs.Morsels.{morsel_cut}
use Rattle.ssb_pipeline.proofs.Cuts.{all-pieces, one-piece}
use Rattle.ssb_pipeline.proofs.MorselFacts.{morsel-begins, morsel-end, morsel-rises}
use Rattle.ssb_pipeline.proofs.law.morsels_in_sections.Goals as goal

pub returns-clause-one : goal.returns-clause-one
returns-clause-one c = λ morsels sections pos i lt.
    one-piece (morsel_cut morsels sections) (morsel-begins morsels sections pos) (λ s. morsel-rises morsels sections s pos) sections i (subst (λ n. i < n) (sym (morsel-end morsels sections pos)) lt)

pub returns-clause-all : goal.returns-clause-all
returns-clause-all c = λ morsels sections pos.
    all-pieces (morsel_cut morsels sections) (morsel-begins morsels sections pos) (λ s. morsel-rises morsels sections s pos) sections ∙ ap (range_with_len 0) (morsel-end morsels sections pos)
