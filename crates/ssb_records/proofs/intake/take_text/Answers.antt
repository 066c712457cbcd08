use Rattle.std.proofs.Common.{◌++◌, ◌∷◌, ◌∙◌, [], List, Some, refl, sym, ap, subst, inl, inr, append_assoc}
use Rattle.std.specs.Prelude.{option_map}
use Rattle.std.proofs.lemmas.List.{append-nil}
use Rattle.std.proofs.lemmas.Result.{err_from_is_err_and}
use Rattle.csv.specs.Reading.{strip_bom}
use Rattle.csv.specs.Records.{fields_of}
use Rattle.ssb_records.specs.Intake.{Refuses}
use Rattle.ssb_records.specs.Records.{Fields}
use Rattle.ssb_records.proofs.Reading.{reading-start, reading-more, reading-end, reading-begins}
use Rattle.ssb_records.proofs.Taking.{regroup, text_left}
use Rattle.ssb_records.proofs.intake.take_text.Goals as goal

pub loop-init : goal.loop-init
loop-init g c =
    let fr = c.bar_reader-reader.ensures in
    record {
      done = [];
      reading = reading-start text_left (Some (c.args.before.now ++ c.args.text.now)) c.bar_reader-reader.result
          fr.config fr.trim fr.flexible (inr (inr (fr.has_headers, fr.headers)))
          (fr.source ∙ ap (option_map strip_bom) c.chain.ensures.bytes) fr.state;
      same = refl;
      moved = λ good h. subst (g.T.Intake.stands c.args.intake.now) (sym (append-nil good)) h;
    }

pub returns-in-Ok-false-clause-subject : goal.returns-in-Ok-false-clause-subject
returns-in-Ok-false-clause-subject g c = c.loop.invariant.same

pub returns-in-Ok-false-clause-taken : goal.returns-in-Ok-false-clause-taken
returns-in-Ok-false-clause-taken g c good h =
    let inv = c.loop.invariant in
    let r = rw c.in-Ok-false.field-0-test at (c.in-Ok-false.ensures.reads inv.reading.plain inv.reading.ready) in
    reading-end text_left (Some (c.args.before.now ++ c.args.text.now)) c.loop.reader c.read_byte_record.new.self inv.done (fields_of c.read_byte_record.new.row)
    (λ records. g.T.Intake.stands c.loop.intake (good ++ records)) inv.reading r (inv.moved good h)

pub returns-in-Err-clause-subject : goal.returns-in-Err-clause-subject
returns-in-Err-clause-subject g c = c.loop.invariant.same

pub take-requires : goal.take-requires
take-requires g c = (c.requires.0 ++ c.loop.invariant.done, c.loop.invariant.moved c.requires.0 c.requires.1)

pub returns-in_err-take-clause-subject : goal.returns-in_err-take-clause-subject
returns-in_err-take-clause-subject g c = c.take.ensures.subject ∙ c.loop.invariant.same

pub returns-in_err-take-clause-refused : goal.returns-in_err-take-clause-refused
returns-in_err-take-clause-refused g c =
    let inv = c.loop.invariant in
    let e = c.in_err-take.field-0.0 in
    let f = fields_of c.read_byte_record.new.row in
    let r = rw c.in-Ok-true.field-0-test at (c.in-Ok-true.ensures.reads inv.reading.plain inv.reading.ready) in
    let next = reading-more text_left (Some (c.args.before.now ++ c.args.text.now)) c.loop.reader c.read_byte_record.new.self inv.done f inv.reading r c.in-Ok-true.ensures.flexible
    (inl (c.in-Ok-true.ensures.ready inv.reading.plain)) in
    let q = err_from_is_err_and c.from_residual.result c.from_residual.ensures.1 in
    rw (q.1, q.2) (λ good rest h.
    reading-begins text_left (Some (c.args.before.now ++ c.args.text.now)) c.read_byte_record.new.self (inv.done ++ f ∷ [])
    (λ records. Refuses (g.T.Intake.judge (g.T.Intake.subject c.args.intake.now)) (good ++ (records ++ rest)) e) next
    (λ more.
    let P : List Fields → Type 0 = λ records. Refuses (g.T.Intake.judge (g.T.Intake.subject c.args.intake.now)) records e in
    subst P (regroup good inv.done more rest f)
    (rw inv.same at (c.in_err-take.ensures.refused (good ++ inv.done) (more ++ rest) (inv.moved good h)))))

pub loop-preserved : goal.loop-preserved
loop-preserved g c =
    let inv = c.loop.invariant in
    let f = fields_of c.read_byte_record.new.row in
    let r = rw c.in-Ok-true.field-0-test at (c.in-Ok-true.ensures.reads inv.reading.plain inv.reading.ready) in
    record {
      done = inv.done ++ f ∷ [];
      reading = reading-more text_left (Some (c.args.before.now ++ c.args.text.now)) c.loop.reader c.read_byte_record.new.self inv.done f inv.reading r c.in-Ok-true.ensures.flexible
          (inl (c.in-Ok-true.ensures.ready inv.reading.plain));
      same = c.take.ensures.subject ∙ inv.same;
      moved = λ good h. subst (g.T.Intake.stands c.take.new.self) (append_assoc good inv.done (f ∷ [])) (c.in_ok-take.ensures.taken (good ++ inv.done) (inv.moved good h));
    }

pub returns-clause-subject : goal.returns-clause-subject
returns-clause-subject g c = c.loop.invariant.same
