use Rattle.std.proofs.Common.{◌∷◌, ◌∙◌, [], ap, map}
use Rattle.std.proofs.lemmas.List.{map-append}
use Rattle.ssb_lanes.proofs.AssemblyLines.{parts-are}
use Rattle.ssb_load.proofs.TableTaking.{limit-is, rules-are}
use Rattle.ssb_lanes.proofs.assembly.Assembly.finish.Goals as goal

pub returns-clause-taken : goal.returns-clause-taken
returns-clause-taken c bytes h =
    let a = c.take_last.new.self in
    let w = c.in_ok-take_last.ensures.taken bytes h in
    let rules = rules-are a.last _ _ c.take_last.ensures.subject in
    let limit = limit-is a.last _ _ c.take_last.ensures.subject in
    let are = c.in-Ok.ensures w.latest w.held.taken in
    rw (← rules, ← limit) (parts-are a bytes _ c.in-Ok.columns.items w are (ap (map (λ v. v.items)) c.in_ok-put.ensures.put ∙ map-append _ a.done.items (c.in-Ok.columns ∷ [])))
