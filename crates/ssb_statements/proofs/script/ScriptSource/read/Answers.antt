use Rattle.std.proofs.Common.{◌≡◌, ◌∙◌, [], true, ◌+◌, ◌-◌, ◌<◌, ap, arith, drop, length, subst, sym, take}
use Rattle.std.proofs.lemmas.Bool.{ne_eqb}
use Rattle.ssb_statements.specs.Parting.{EndsBefore, IsAtCommand}
use Rattle.ssb_statements.specs.Reader.{ScriptReader}
use Rattle.ssb_statements.specs.ScriptParts.{unread}
use Rattle.ssb_statements.proofs.Finding.{between}
use Rattle.ssb_statements.proofs.Giving.{cut-at, end-moved, ends-counted, ends-here, ends-same, gives-no-more, not-counted, wait-long}
use Rattle.ssb_statements.proofs.script.ScriptSource.read.Goals.{then-count-eq0, else-count-eq0}
use Rattle.ssb_statements.proofs.script.ScriptSource.read.Goals as goal

pub invariant_of-self : goal.invariant_of-self
invariant_of-self g c =
    let r = c.self.inside in
    let was = c.self.invariant in
    let met = subst (λ (s : ScriptReader g.row.S.Denot). s.waiting ≡ [] → s.ended ≡ true) (sym c.self.view_is) c.in_ok-refill.ensures.over in
    let n = c.give-count.result in
    let bytes = take (r.end - r.at) (drop r.at c.deref.result.now) in
    let is = ap (λ p. take (r.end - r.at) (drop r.at p)) c.deref.ensures.value ∙ between r.at r.end r.piece.items was.inside in
    let old = r.position.all.items in
    let left = take r.end r.piece.items in
    let over : 0 < length c.replace-ended.result.items → EndsBefore old (unread r) r.input.ended = λ l. was.over (subst (λ h. 0 < length h.items) c.replace-ended.ensures.value l) in
    record {
      over = λ l. elim c.if-count-eq0.branch [
        | then-count-eq0 w ↦
            let now : 0 < length c.give-count.new.room → EndsBefore old (unread r) r.input.ended = λ some. ends-here old (unread r) r.input.ended (λ more. subst (IsAtCommand old) is (c.give-count.ensures.none w.if-count-eq0.true (omega (arith, more, ap length is)) (omega (arith, some, c.give-count.ensures.length)))) met in
            ends-same n r.at old c.give-count.new.position.all.items bytes left r.input.ended w.if-count-eq0.true c.give-count.ensures.passed (ends-counted _ _ _ w.is_empty.result c.if-count-eq0.counted (EndsBefore old (unread r) r.input.ended) w.is_empty.ensures w.counted-is c.counted-self-inside.ensures l over now)
        | else-count-eq0 w ↦
            absurd (gives-no-more n old c.give-count.new.position.all.items bytes r.input.ended c.give-count.ensures.passed c.give-count.new.position.none c.give-count.ensures.bytes w.if-count-eq0.false (subst (λ t. EndsBefore old t r.input.ended) (sym is) (over (not-counted _ _ c.if-count-eq0.counted (w.counted-is ∙ ne_eqb n 0 w.if-count-eq0.false) c.counted-self-inside.ensures l))))
      ];
      inside = omega (arith, was.inside, c.give-count.ensures.bytes, ap length is, wait-long r.at r.end r.piece.items (omega (arith, was.held, r.piece.ok.0)));
      held = was.held;
      room = was.room;
      line_room = was.line_room;
      kept = end-moved (g.S.Source.given r.input.source) r.position.all.items c.give-count.new.position.all.items (unread r) (drop (r.at + n) (take r.end r.piece.items)) (take n bytes) was.kept (cut-at n r.at r.end r.piece.items bytes is) c.give-count.ensures.passed;
    }
