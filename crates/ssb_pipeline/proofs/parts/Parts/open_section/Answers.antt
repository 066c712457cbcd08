use Rattle.std.proofs.Common.{◌∙◌, [], false, sym, ap, subst}
use Rattle.std.proofs.lemmas.Result.{IfOk-weaker}
use Rattle.std.specs.Arc.{arc_value}
use Rattle.ssb_pipeline.specs.Part.{IsOpening}
use Rattle.ssb_pipeline.specs.Rule.{Knows, knows}
use Rattle.ssb_pipeline.proofs.RunFacts.{own-opening}
use Rattle.ssb_pipeline.proofs.parts.Parts.open_section.Goals as goal

pub open_one-requires : goal.open_one-requires
open_one-requires g c = own-opening _ _ _ _ c.in_ok-part.part c.in_ok-part.ensures.opening

pub returns-clause-queue : goal.returns-clause-queue
returns-clause-queue g c = IfOk-weaker c.open_one.result _ _ (λ r h. (h.0, h.1)) c.open_one.ensures

pub returns-clause-knows : goal.returns-clause-knows
returns-clause-knows g c = IfOk-weaker c.open_one.result _ _ (λ r h. h.2 ∙ ap (λ (v : Knows). knows false v.seen [] []) (sym h.2)) c.open_one.ensures

pub returns-clause-opening : goal.returns-clause-opening
returns-clause-opening g c =
    let job = arc_value c.args.job.now in
    let opening = subst (λ j. IsOpening j c.args.morsel_size c.args.section c.args.sections c.in_ok-part.part) {y = job} c.in_ok-try_clone.ensures c.in_ok-part.ensures.opening in
    IfOk-weaker c.open_one.result _ _ (λ r h. subst (λ (v : Knows). IsOpening job c.args.morsel_size c.args.section c.args.sections v.seen) (sym h.2) opening) c.open_one.ensures
