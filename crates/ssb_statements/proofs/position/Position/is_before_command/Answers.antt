use Rattle.std.proofs.Common.{◌∙◌, length, sym}
use Rattle.ssb_statements.proofs.Standing.{IsKnown, is-before, is-clear}
use Rattle.ssb_statements.proofs.position.Position.is_before_command.Goals as goal

pub returns-then-self : goal.returns-then-self
returns-then-self c =
    let s = c.args.self.now in
    let k : IsKnown (length s.told.items) s.all.items s.boundary = record { few = s.few; known = s.known } in
    (λ h. is-before _ s.all.items s.boundary k (sym s.head ∙ c.if-self.true) (c.is_clear.ensures.0 h), λ h. c.is_clear.ensures.1 (is-clear _ s.all.items s.boundary k h))
