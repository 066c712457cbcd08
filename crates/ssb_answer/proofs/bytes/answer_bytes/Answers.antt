use Rattle.std.proofs.Common.{◌∙◌, ap, map}
use Rattle.ssb_answer.proofs.InMemory.{bytes-are, fault-told, slices-told}
use Rattle.ssb_answer.proofs.bytes.answer_bytes.Goals as goal

pub returns-in-Ok-clause-answer : goal.returns-in-Ok-clause-answer
returns-in-Ok-clause-answer c =
    let told = c.in-Ok.ensures.replies (map (λ f. f.now) c.args.files.items) (slices-told c.args.files.items) in
    let grew = c.in-Ok.ensures.sink.holds in (
      told.0,
      told.1,
      ap (λ v. v.items) c.into_writer.ensures
          ∙ bytes-are _ _ _ _ _ _ c.new-out.ensures.taken (ap (λ v. v.items) c.new-out.ensures.writer ∙ c.new.ensures.items) grew.taken grew.contents told.2,
    )

pub returns-in-Err-clause-fault : goal.returns-in-Err-clause-fault
returns-in-Err-clause-fault c =
    let told = c.in-Err.ensures.replies (map (λ f. f.now) c.args.files.items) (slices-told c.args.files.items) in
    fault-told _ _ _ _ _ c.in-Err.fault c.content_fault.result c.content_fault.ensures.content c.content_fault.ensures.same told
