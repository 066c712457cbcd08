use Rattle.std.proofs.Common.{◌∙◌, ap, subst, sym}
use Rattle.ssb_groups.specs.Stands.{GroupMap, Stands}
use Rattle.ssb_pipeline.specs.State.{PartialState}
use Rattle.ssb_pipeline.proofs.partial.Partial.merge_into.Goals as goal

pub returns-in-Err-clause-partial : goal.returns-in-Err-clause-partial
returns-in-Err-clause-partial c =
    let with : GroupMap → PartialState = λ groups. record { tickets = c.self.inside.tickets.items; groups = groups } in
    ap with c.in-Err.ensures.other ∙ c.self.view_is

pub returns-in-Ok-clause-stands : goal.returns-in-Ok-clause-stands
returns-in-Ok-clause-stands c = λ A B mine others. c.in-Ok.ensures.stands A B mine (subst (λ (p : PartialState). Stands p.groups B) (sym c.self.view_is) others)
