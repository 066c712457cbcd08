use Rattle.std.proofs.Common.{◌∙◌, ◌++◌, ◌-◌, ap, refl, ℕ, take, drop}
use Rattle.ssb_records.specs.declared.history.History.{History}
use Rattle.ssb_statements.proofs.Finding.{between, finds-next, goes-on, is-not-cut, takes-rest}
use Rattle.ssb_statements.proofs.buffer.StatementBuffer.find.Goals as goal

pub returns-in-Some : goal.returns-in-Some
returns-in-Some c =
    let r = c.args.self.now in
    let is = ap (λ p. take (r.end - r.at) (drop r.at p)) c.deref.ensures.value ∙ between r.at r.end r.piece.items r.inside in
    (c.take_all.new.self.boundary.so_far.items, c.finish-statement.ensures.told, finds-next _ _ _ _ _ _ _ _ _ r.known is c.in-Some.ensures.1 c.new-self.ensures)

pub returns-in-None : goal.returns-in-None
returns-in-None c =
    let r = c.args.self.now in
    let b = between r.at r.end r.piece.items r.inside in
    let is = ap (λ p. take (r.end - r.at) (drop r.at p)) c.deref.ensures.value ∙ b in
    let more = c.and_all-self.ensures ∙ ap (λ p. c.replace-taken.result.items ++ take (r.end - r.at) (drop r.at p)) c.deref-in-None.ensures.value
    ∙ ap (λ (h : History ℕ). h.items ++ take (r.end - r.at) (drop r.at r.piece.items)) c.replace-taken.ensures.value in
    (takes-rest r.taken.items c.and_all-self.result.items r.piece.items (take (r.end - r.at) (drop r.at r.piece.items)) r.at r.end b more, refl, is-not-cut _ c.take_all.new.self.boundary (goes-on r.taken.items _ _ r.cutter.boundary _ r.known is c.in-None.ensures))
