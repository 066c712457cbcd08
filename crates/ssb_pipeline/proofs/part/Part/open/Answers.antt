use Rattle.std.proofs.Common.{◌≡◌, ◌∙◌, ◌<◌, ◌^◌, ◌-◌, ◌+◌, ℕ, Some, false, true, length, refl, sym, ap, subst, arith}
use Rattle.std.specs.Prelude.{slice_get}
use Rattle.std.specs.Arc.{arc_value}
use Rattle.ssb_job.specs.Kept.{fact_rows}
use Rattle.ssb_pipeline.specs.Morsels.{morsel_count, morsel_cut}
use Rattle.ssb_pipeline.proofs.OpeningFacts.{free-all, none-marked, opens}
use Rattle.ssb_pipeline.proofs.PartFacts.{lawful-of}
use Rattle.ssb_pipeline.proofs.part.Part.open.Goals as goal

pub invariant_of-result : goal.invariant_of-result
invariant_of-result c =
    let j = arc_value c.args.job in
    let section = c.requires.section in
    let counted : c.fact_rows.result ≡ fact_rows j = c.fact_rows.ensures ∙ ap fact_rows c.deref.ensures in
    let morsels : c.div_ceil-morsels.result ≡ morsel_count (fact_rows j) c.args.morsel_size = c.div_ceil-morsels.ensures ∙ ap (λ r. morsel_count r c.args.morsel_size) counted in
    let begins = c.morsel_cut-first.ensures ∙ ap (λ m. morsel_cut m c.args.sections c.args.section) morsels in
    let ends = c.morsel_cut-end.ensures ∙ ap (λ m. morsel_cut m c.args.sections (c.args.section + 1)) morsels in
    let many : length c.in_ok-marks.marks.items ≡ c.morsel_cut-end.result - c.morsel_cut-first.result = sym c.in_ok-marks.marks.ok.0 ∙ c.in_ok-marks.ensures.len in
    let free : (i : ℕ) → slice_get c.in_ok-marks.marks.items i ≡ Some true → ⊥ = free-all _ c.in_ok-marks.marks.items (c.in_ok-marks.ensures.items_if_clones_equal (λ b e. e)) in
    let rows : fact_rows j < 2 ^ 32 = subst (λ r. r < 2 ^ 32) counted c.fact_rows.type_inv in
    let g = c.in_ok-groups.ensures in
    let both : length c.in_ok-given.given.items ≡ length c.in_ok-marks.marks.items = sym c.in_ok-given.given.ok.0 ∙ c.in_ok-given.ensures.len ∙ sym c.in_ok-marks.ensures.len ∙ c.in_ok-marks.marks.ok.0 in
    (opens j c.args.morsel_size c.args.section c.args.sections c.morsel_cut-first.result c.morsel_cut-end.result c.in_ok-marks.marks.items c.in_ok-groups.groups (omega (arith, section)) begins ends many free c.morsel_cut-end.type_inv rows g.stands (g.job ∙ c.deref-2.ensures) g.counted, both)

pub returns-clause-opening : goal.returns-clause-opening
returns-clause-opening c =
    let free : (i : ℕ) → slice_get c.in_ok-marks.marks.items i ≡ Some true → ⊥ = free-all _ c.in_ok-marks.marks.items (c.in_ok-marks.ensures.items_if_clones_equal (λ b e. e)) in
    let none : (i : ℕ) → slice_get c.in_ok-given.given.items i ≡ Some true → ⊥ = free-all _ c.in_ok-given.given.items (c.in_ok-given.ensures.items_if_clones_equal (λ b e. e)) in
    let g = c.in_ok-groups.ensures in
    record { job = refl; size = refl; section = refl; sections = refl; handed = refl; returned = none-marked c.morsel_cut-first.result c.in_ok-marks.marks.items free; given = none-marked c.morsel_cut-first.result c.in_ok-given.given.items none; gave_up = refl; one_job = g.job ∙ c.deref-2.ensures; stands = g.stands }

pub returns-clause-lawful : goal.returns-clause-lawful
returns-clause-lawful c =
    lawful-of (arc_value c.args.job) c.args.morsel_size c.args.section c.args.sections c.morsel_cut-first.result 0 0 c.in_ok-marks.marks.items c.in_ok-given.given.items false c.in_ok-groups.groups (invariant_of-result c).0
