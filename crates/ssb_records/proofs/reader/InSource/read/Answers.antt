use Rattle.std.proofs.Common.{◌∙◌, ◌++◌, ◌<◌, length, take, ap, arith}
use Rattle.ssb_records.proofs.Left.{known-more, known-over, known-kept}
use Rattle.ssb_records.proofs.reader.InSource.read.Goals as goal

pub invariant_of-self : goal.invariant_of-self
invariant_of-self g c =
    let room : 0 < length c.read.new.buf = grind arith in
    record {
      known = known-over _ _ _ _ _
          (known-more _ _ _ _ _ _ _ c.args.self.now.known c.in-Ok.ensures.bytes.0 (c.and_all-self.ensures ∙ ap (λ l. l.items ++ take c.in-Ok.count c.read.new.buf) c.replace-given.ensures.value))
          (c.in-Ok.ensures.bytes.1 c.if-count-eq0.true room);
    }

pub invariant_of-self-else-not-is_empty : goal.invariant_of-self-else-not-is_empty
invariant_of-self-else-not-is_empty g c = record {
  known = known-more _ _ _ _ _ _ _ c.args.self.now.known c.in-Ok.ensures.bytes.0 (c.and_all-self.ensures ∙ ap (λ l. l.items ++ take c.in-Ok.count c.read.new.buf) c.replace-given.ensures.value);
}

pub invariant_of-self-else-count-eq0 : goal.invariant_of-self-else-count-eq0
invariant_of-self-else-count-eq0 g c = record {
  known = known-more _ _ _ _ _ _ _ c.args.self.now.known c.in-Ok.ensures.bytes.0 (c.and_all-self.ensures ∙ ap (λ l. l.items ++ take c.in-Ok.count c.read.new.buf) c.replace-given.ensures.value);
}

pub invariant_of-self-in-Err : goal.invariant_of-self-in-Err
invariant_of-self-in-Err g c = record { known = known-kept _ _ _ _ _ c.args.self.now.known c.in-Err.ensures.bytes }
