use Rattle.std.proofs.Common.{◌∙◌, ap, take}
use Rattle.ssb_statements.specs.Reader.{ScriptReader}
use Rattle.ssb_statements.proofs.script.Script.line.Goals as goal

pub returns : goal.returns
returns g c =
    let s = c.self.inside in
    c.as_slice.ensures ∙ ap (λ n. take n s.line.all.items) c.self.invariant.line_room ∙ ap (λ (r : ScriptReader g.row.S.Denot). r.line) c.self.view_is
