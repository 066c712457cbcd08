use Rattle.ssb_pipeline.proofs.part.Part.into_groups.Goals as goal

pub returns-clause-few : goal.returns-clause-few
returns-clause-few c = rw (← c.self.view_is) c.self.invariant.0.few
