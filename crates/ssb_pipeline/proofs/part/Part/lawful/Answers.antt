use Rattle.ssb_pipeline.proofs.PartFacts.{lawful-of}
use Rattle.std.specs.Arc.{arc_value}
use Rattle.ssb_pipeline.proofs.part.Part.lawful.Goals as goal

pub returns : goal.returns
returns c =
    let p = c.self.inside in
    rw (← c.self.view_is) (lawful-of (arc_value p.job) p.size p.section p.sections p.first p.next p.back p.marks.items p.given.items p.gave_up p.groups c.self.invariant.0)
