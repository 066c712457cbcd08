use Rattle.std.proofs.Common.{◌≡◌, ◌∙◌, length, sym, ap, subst, arith}
use Rattle.std.specs.List.{range_with_len}
use Rattle.std.specs.Arc.{arc_value}
use Rattle.ssb_job.specs.Kept.{fact_rows}
use Rattle.ssb_pipeline.specs.Morsels.{morsel_count, section}
use Rattle.ssb_pipeline.specs.Part.{PartState, ours}
use Rattle.ssb_pipeline.proofs.PartFacts.{handed-kept, ours-is, state}
use Rattle.ssb_pipeline.proofs.part.Part.hand_out_all.Goals as goal

pub invariant_of-self : goal.invariant_of-self
invariant_of-self c =
    let p = c.self.inside in
    let fits = c.self.invariant.0.fits in
    let n = c.len.ensures in
    (handed-kept (arc_value p.job) p.size p.section p.sections p.first p.next c.len.result p.back p.marks.items p.groups c.self.invariant.0 (omega (arith, fits, n)) (omega (arith, n)), c.self.invariant.1)

pub returns : goal.returns
returns c =
    let p = c.self.inside in
    let j = arc_value p.job in
    let n = c.len.ensures in
    let all : c.len.result ≡ length p.marks.items = omega (arith, n) in
    let is : range_with_len p.first c.len.result ≡ section (morsel_count (fact_rows j) p.size) p.sections p.section = ap (range_with_len p.first) all ∙ sym (ours-is j p.size p.section p.sections p.first p.next p.back p.marks.items p.groups c.self.invariant.0) in
    let after = state j p.size p.section p.sections p.first c.len.result p.marks.items p.given.items p.gave_up p.groups in
    subst (λ (q : PartState). after ≡ record q { handed = ours q }) c.self.view_is (λ k. record after { handed = is k })
