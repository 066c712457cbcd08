use Rattle.std.proofs.Common.{◌+◌, ◌∙◌, ◌++◌, ◌∷◌, [], ap, arith, drop, refl, subst, sym, take}
use Rattle.ssb_statements.specs.Parting.{IsEndOf}
use Rattle.ssb_statements.specs.Reader.{ScriptReader}
use Rattle.ssb_statements.specs.ScriptParts.{unread}
use Rattle.ssb_statements.proofs.Giving.{end-rest, next-waits, no-end}
use Rattle.ssb_statements.proofs.script.Script.take_byte.Goals as goal

pub invariant_of-self : goal.invariant_of-self
invariant_of-self g c =
    let s = c.self.inside in
    let was = c.self.invariant in
    let all = g.S.Source.given s.input.source in
    let rest = drop (s.at + 1) (take s.end s.piece.items) in
    let w = next-waits s.at s.end s.piece.items c.index-byte.result.now was.inside c.if-self.false (omega (arith, was.held, s.piece.ok.0)) c.index-byte.ensures in
    let anew = ap (λ (r : ScriptReader g.row.S.Denot). r.stretch) c.self.view_is ∙ c.requires in
    record {
      inside = omega (arith, was.inside, c.if-self.false);
      held = was.held;
      room = was.room;
      line_room = was.line_room;
      over = no-end c.new-self-inside.result.items _ _ s.input.ended c.new-self-inside.ensures;
      kept = subst (λ t. IsEndOf all (t ++ rest)) (sym anew) (end-rest all s.position.all.items (unread s) (c.index-byte.result.now ∷ []) rest was.kept w);
    }

pub returns : goal.returns
returns g c =
    let s = c.self.inside in
    rw (← c.self.view_is) (record {
      byte = next-waits s.at s.end s.piece.items c.index-byte.result.now c.self.invariant.inside c.if-self.false (omega (arith, c.self.invariant.held, s.piece.ok.0)) c.index-byte.ensures;
      source = refl;
      ended = refl;
      same = refl;
      line = refl;
    })
