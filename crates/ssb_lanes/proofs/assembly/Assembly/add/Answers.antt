use Rattle.std.proofs.Common.{◌++◌, ◌∷◌, ◌∙◌, ap, refl, subst, arith}
use Rattle.std.proofs.lemmas.Result.{err_from_is_err_and}
use Rattle.ssb_lanes.specs.Assembly.{all_in, subject_in}
use Rattle.ssb_load.specs.Subject.{judge}
use Rattle.ssb_records.specs.Intake.{Refuses}
use Rattle.ssb_records.specs.Records.{records_of}
use Rattle.ssb_lanes.proofs.AssemblyFacts.{held-after}
use Rattle.ssb_lanes.proofs.AssemblyLines.{added, added-refuses, refuses-on, waits-on}
use Rattle.ssb_lanes.proofs.PartTaking.{on-ok}
use Rattle.std.proofs.lemmas.Grind.{common_steps}
use Rattle.ssb_lanes.proofs.assembly.Assembly.add.Goals as goal

pub returns-then-not-part-clause-taken : goal.returns-then-not-part-clause-taken
returns-then-not-part-clause-taken c =
    on-ok c.keep.result (λ kept bytes more h part.
    waits-on c.args.self.now _ c.args.part bytes more h part c.if-not-part.true (kept ∙ ap (λ t. c.args.self.now.pending.items ++ t) c.deref.ensures.value) refl refl refl refl) c.keep.ensures.kept

pub returns-in_err-close-clause-refused : goal.returns-in_err-close-clause-refused
returns-in_err-close-clause-refused c =
    let out = err_from_is_err_and c.from_residual.result c.from_residual.ensures.1 in
    rw (out.1, out.2) (λ bytes more h part.
    refuses-on (subject_in c.args.self.now) bytes c.args.part.head.items (part.lines ++ c.args.part.tail.items) more c.in_err-close.field-0.0 part.split (rw c.deref-2.ensures.value at (c.in_err-close.ensures.refused bytes h)))

pub add_rows-requires-clause-held : goal.add_rows-requires-clause-held
add_rows-requires-clause-held c = let h = c.in_ok-close.ensures.taken c.requires.assembled.0 c.requires.assembled.1 in (h.lists, h.latest, h.held)

pub returns-in_err-add_rows-clause-refused : goal.returns-in_err-add_rows-clause-refused
returns-in_err-add_rows-clause-refused c =
    let out = err_from_is_err_and c.from_residual-in_err-add_rows.result c.from_residual-in_err-add_rows.ensures.1 in
    let e = c.in_err-add_rows.field-0.0 in
    rw (out.1, out.2) (λ bytes more h part.
    let mid = rw c.deref-2.ensures.value at (c.in_ok-close.ensures.taken bytes h) in
    let none = c.in_ok-close.ensures.none in
    added-refuses c.close.new.self (subject_in c.args.self.now) c.args.part bytes more part.lines c.args.part.tail.items e mid none.0 none.1 part.split part.whole
    (λ last. subst (λ s. Refuses (judge s) (all_in mid.lists ++ (mid.latest ++ (records_of (10 ∷ part.lines) ++ last))) e) c.close.ensures.subject
    (c.in_err-add_rows.ensures.refused mid.lists mid.latest (records_of (10 ∷ part.lines)) last mid.held part.taken)))

pub returns-clause-taken : goal.returns-clause-taken
returns-clause-taken c bytes more h part =
    let mid = rw c.deref-2.ensures.value at (c.in_ok-close.ensures.taken bytes h) in
    let none = c.in_ok-close.ensures.none in
    let held = c.in_ok-add_rows.ensures.taken mid.lists mid.latest (records_of (10 ∷ part.lines)) mid.held part.taken in
    added c.close.new.self _ c.args.part bytes more mid part none.0 none.1 (held-after _ _ _ _ _ held refl refl refl held.taken held.few) refl (c.add_rows.ensures.pending.1 ∙ none.1)

pub returns-clause-subject : goal.returns-clause-subject
returns-clause-subject c = grind (arith, common_steps)
