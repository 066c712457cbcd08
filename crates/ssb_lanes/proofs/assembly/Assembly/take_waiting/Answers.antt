use Rattle.std.proofs.Common.{◌++◌, append_assoc, refl, subst, arith}
use Rattle.ssb_lanes.specs.Assembly.{all_in, lead, subject_in}
use Rattle.ssb_load.specs.Subject.{judge}
use Rattle.ssb_records.specs.Intake.{Refuses}
use Rattle.ssb_records.specs.Records.{records_of}
use Rattle.ssb_lanes.proofs.AssemblyFacts.{held-many, held-refuses}
use Rattle.ssb_lanes.proofs.PartTaking.{if-err}
use Rattle.ssb_load.proofs.TableTaking.{limit-is}
use Rattle.std.proofs.lemmas.Grind.{common_steps}
use Rattle.ssb_lanes.proofs.assembly.Assembly.take_waiting.Goals as goal

pub returns-in-Ok-clause-refused : goal.returns-in-Ok-clause-refused
returns-in-Ok-clause-refused c =
    if-err c.check_limit.result _ _ (λ e many lists latest rest h.
    let a = c.args.self.now in
    let more = records_of (lead a.is_cut ++ a.pending.items) in
    let taken = rw (c.lead-before.ensures, c.deref.ensures.value) at (c.in-Ok.ensures.taken latest h.taken) in
    let r = held-many a c.take_text.new.intake lists latest (latest ++ more) rest _ e h c.take_text.ensures.subject taken refl many in
    subst (λ rs. Refuses (judge (subject_in a)) (all_in lists ++ rs) e) (append_assoc latest more rest) r) c.check_limit.ensures.many

pub returns-clause-refused : goal.returns-clause-refused
returns-clause-refused c lists latest rest h =
    let a = c.args.self.now in
    let more = records_of (lead a.is_cut ++ a.pending.items) in
    let r = rw (c.lead-before.ensures, c.deref.ensures.value) at (c.in-Err.ensures.refused latest rest h.taken) in
    let limit = limit-is c.take_text.new.intake _ _ c.take_text.ensures.subject in
    rw (c.moved.ensures, limit) (held-refuses a lists latest (latest ++ (more ++ rest)) c.in-Err.fault h r)

pub check_limit-requires-clause-few : goal.check_limit-requires-clause-few
check_limit-requires-clause-few c = grind (arith, common_steps)

pub check_limit-requires-clause-room : goal.check_limit-requires-clause-room
check_limit-requires-clause-room c = grind (arith, common_steps)

pub moved-requires : goal.moved-requires
moved-requires c = grind (arith, common_steps)
