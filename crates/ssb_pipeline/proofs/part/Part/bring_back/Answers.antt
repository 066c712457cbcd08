use Rattle.std.proofs.Common.{◌∙◌, sym, ap}
use Rattle.ssb_pipeline.specs.Part.{PartState}
use Rattle.ssb_pipeline.proofs.Bringing.{one-alone, return-alone}
use Rattle.ssb_pipeline.proofs.part.Part.bring_back.Goals as goal
use Rattle.ssb_pipeline.proofs.part.Part.bring_back.Goals.{in-Ok-take_in, in-Err-Memory}

pub of_one-requires-clause-one_job : goal.of_one-requires-clause-one_job
of_one-requires-clause-one_job c = c.requires.one_job ∙ sym (ap (λ (q : PartState). q.job) c.self.view_is) ∙ sym c.deref.ensures

pub take_in-requires : goal.take_in-requires
take_in-requires c = record { one_job = one-alone c.in-Ok.partial c.args.ticket _ c.in-Ok.ensures.ticket c.requires.one_job; scratch = c.in-Ok.ensures.same ∙ c.requires.scratch }

pub returns-clause-back : goal.returns-clause-back
returns-clause-back c = elim c.match-take_in.branch [
  | in-Ok-take_in w ↦ rw w.result-is (return-alone c.in-Ok.partial c.args.ticket _ _ c.in-Ok.ensures.ticket w.in-Ok-take_in.ensures.gives)
  | in-Err-Memory w ↦ rw w.result-is tt
]

pub returns-clause-job : goal.returns-clause-job
returns-clause-job c = elim c.match-take_in.branch [
  | in-Ok-take_in w ↦ rw w.result-is (ap (λ (q : PartState). q.job) w.in-Ok-take_in.ensures.gives.after)
  | in-Err-Memory w ↦ rw w.result-is tt
]

pub returns-clause-err : goal.returns-clause-err
returns-clause-err c = elim c.match-take_in.branch [
  | in-Ok-take_in w ↦ rw w.result-is tt
  | in-Err-Memory w ↦ rw w.result-is (rw w.in-Err-Memory.field-0-is at w.in-Err-Memory.ensures.gives).same
]
