use Rattle.std.proofs.Common.{◌∙◌, ◌-◌, ap, drop, take}
use Rattle.ssb_statements.specs.Reader.{ScriptReader}
use Rattle.ssb_statements.proofs.Finding.{between}
use Rattle.ssb_statements.proofs.script.Script.waiting.Goals as goal

pub returns : goal.returns
returns g c =
    let s = c.self.inside in
    ap (λ p. take (s.end - s.at) (drop s.at p)) c.deref.ensures.value ∙ between s.at s.end s.piece.items c.self.invariant.inside ∙ ap (λ (r : ScriptReader g.row.S.Denot). r.waiting) c.self.view_is
