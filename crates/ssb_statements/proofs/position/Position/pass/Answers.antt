use Rattle.std.proofs.Common.{◌+◌, ◌∙◌, ap, if◌then◌else◌, length, sym}
use Rattle.ssb_records.specs.declared.history.History.{History}
use Rattle.ssb_statements.specs.Parting.{begins_line}
use Rattle.ssb_statements.proofs.Standing.{line-more, none-more, passes}
use Rattle.ssb_statements.proofs.position.Position.pass.Goals as goal

pub invariant_of-self : goal.invariant_of-self
invariant_of-self c =
    let s = c.args.self.now in
    let r = c.take_byte-has_ended.result in
    let count = c.counted-self.ensures ∙ ap (λ (h : History (Unit {0})). length h.items + (if r then 1 else 0)) c.replace-told.ensures.value in
    let k = passes r (length s.told.items) (length c.counted-self.result.items) s.all.items c.and-self.result.items c.args.byte s.boundary c.take_byte-has_ended.new.boundary (record { few = s.few; known = s.known }) c.take_byte-has_ended.ensures count c.and-self.ensures in
    record {
      few = k.few;
      known = k.known;
      head = sym (ap begins_line c.and-self.ensures ∙ line-more s.all.items c.args.byte);
      none = none-more s.all.items c.and-self.result.items c.args.byte c.and-self.ensures s.none c.requires;
    }
