use Rattle.std.proofs.Common.{◌∙◌, ◌++◌, [], ap, refl, subst, sym, take, vec_len}
use Rattle.ssb_statements.specs.Parting.{IsEndOf}
use Rattle.ssb_statements.specs.Reader.{ScriptReader}
use Rattle.ssb_statements.specs.ScriptParts.{unread}
use Rattle.std.proofs.lemmas.Result.{err_from_is_err_and}
use Rattle.ssb_statements.proofs.Giving.{end-rest, line-ended, line-more, line-over, line-stopped, no-end}
use Rattle.ssb_statements.proofs.script.Script.take_line.Goals as goal

pub invariant_of-self : goal.invariant_of-self
invariant_of-self g c =
    let s = c.self.inside in
    let was = c.self.invariant in
    let all = g.S.Source.given s.input.source in
    record {
      inside = was.inside;
      held = was.held;
      room = was.room;
      line_room = ap vec_len c.clear.ensures.kept ∙ was.line_room;
      over = no-end c.new-self-inside.result.items _ _ s.input.ended c.new-self-inside.ensures;
      kept = subst (λ t. IsEndOf all (t ++ unread s)) (sym c.restart.ensures) (end-rest all s.position.all.items (unread s) [] (unread s) was.kept refl);
    }

pub returns-in_err-refill : goal.returns-in_err-refill
returns-in_err-refill g c =
    let out = err_from_is_err_and c.from_residual.result c.from_residual.ensures.1 in
    rw out.1 (line-stopped g.S.Source c.args.self.now c.loop.self c.refill.new.self c.loop.counter _ c.loop.invariant c.in_err-refill.ensures)

pub returns-in_default : goal.returns-in_default
returns-in_default g c = line-over g.S.Source c.args.self.now c.loop.self c.refill.new.self c.take_byte.new.self c.loop.counter c.loop.invariant c.in_ok-refill.ensures c.in_default.ensures

pub returns-then-byte-eq10 : goal.returns-then-byte-eq10
returns-then-byte-eq10 g c = line-ended g.S.Source c.args.self.now c.loop.self c.refill.new.self c.take_byte.new.self c.loop.counter c.in-Some.byte c.if-byte-eq10.true c.loop.invariant c.in_ok-refill.ensures c.in-Some.ensures

pub loop-preserved : goal.loop-preserved
loop-preserved g c =
    let is = c.self-in-loop.view_is in
    let all = c.self-in-loop.inside.line.all.items in
    line-more g.S.Source c.args.self.now c.loop.self c.refill.new.self c.take_byte.new.self _ c.loop.counter c.in-Some.byte all c.if-byte-eq10.false c.loop.invariant c.in_ok-refill.ensures c.in-Some.ensures
    (ap (λ (r : ScriptReader g.row.S.Denot). r.source) is) (ap (λ (r : ScriptReader g.row.S.Denot). r.ended) is) (ap (λ (r : ScriptReader g.row.S.Denot). r.waiting) is) (ap (λ (r : ScriptReader g.row.S.Denot). r.stretch) is)
    (ap (λ (r : ScriptReader g.row.S.Denot). r.line) is) (ap (take 4096) c.put.ensures.all)
