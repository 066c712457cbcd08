use Rattle.std.proofs.Common.{◌∷◌, ◌∙◌, [], ap, map, refl, arith}
use Rattle.std.proofs.lemmas.List.{map-append}
use Rattle.ssb_lanes.proofs.AssemblyFacts.{held-many-next, held-next}
use Rattle.ssb_lanes.proofs.PartTaking.{if-err, on-ok}
use Rattle.std.proofs.lemmas.Grind.{common_steps}
use Rattle.ssb_lanes.proofs.assembly.Assembly.add_rows.Goals as goal

pub returns-clause-taken : goal.returns-clause-taken
returns-clause-taken c =
    on-ok c.check_limit.result (λ few lists latest good h taken.
    let a = c.args.self.now in
    let out = c.replace-last.ensures.value in
    let into = c.replace-last.ensures.after in
    held-next a _ lists latest good c.in-Ok.columns.items h (rw into c.requires.subject)
    (ap (map (λ v. v.items)) c.in_ok-put.ensures.put ∙ map-append _ a.done.items (c.in-Ok.columns ∷ []))
    (rw out at (c.in-Ok.ensures latest (rw out h.taken))) (rw out refl) (rw into taken) few) c.check_limit.ensures.few

pub returns-clause-refused : goal.returns-clause-refused
returns-clause-refused c =
    if-err c.check_limit.result _ _ (λ e many lists latest good rest h taken.
    let out = c.replace-last.ensures.value in
    let into = c.replace-last.ensures.after in
    held-many-next c.args.self.now c.replace-last.new.dest lists latest good rest _ e h (rw into c.requires.subject) (rw into taken) (rw out refl) many) c.check_limit.ensures.many

pub check_limit-requires-clause-few : goal.check_limit-requires-clause-few
check_limit-requires-clause-few c = grind (arith, common_steps)

pub check_limit-requires-clause-room : goal.check_limit-requires-clause-room
check_limit-requires-clause-room c = grind (arith, common_steps)
