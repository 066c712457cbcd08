use Rattle.std.proofs.Common.{◌∙◌, ◌++◌, ◌∷◌, [], length, take, ap, sym, subst, length-append}
use Rattle.std.proofs.lemmas.List.{append-nil}
use Rattle.std.proofs.Math.Logic.{∥∥₁_map}
use Rattle.std.specs.Io.KnownBytes.{Appends}
use Rattle.ssb_rows.proofs.KnownLemmas.{appends-more, appends-kept}
use Rattle.ssb_rows.proofs.Written.{failed-once, failed-not}
use Rattle.ssb_rows.proofs.writer.OutSink.write.Goals as goal
use Rattle.ssb_rows.proofs.writer.OutSink.write.Goals.{else-count-eq0-via-then-count-eq0+else-not-is_empty, else-count-eq0-via-else-count-eq0}

pub invariant_of-self : goal.invariant_of-self
invariant_of-self g c = record {
  known = ∥∥₁_map c.args.self.now.known
      (λ h. appends-more _ _ _ _ _ _ h c.in-Ok.ensures.bytes (c.and_all-self.ensures ∙ ap (λ l. l.items ++ take c.in-Ok.count c.args.bytes.now) c.replace-history.ensures.value));
}

pub invariant_of-self-else-not-is_empty : goal.invariant_of-self-else-not-is_empty
invariant_of-self-else-not-is_empty g c = record {
  known = ∥∥₁_map c.args.self.now.known
      (λ h. appends-more _ _ _ _ _ _ h c.in-Ok.ensures.bytes (c.and_all-self.ensures ∙ ap (λ l. l.items ++ take c.in-Ok.count c.args.bytes.now) c.replace-history.ensures.value));
}

pub invariant_of-self-else-count-eq0 : goal.invariant_of-self-else-count-eq0
invariant_of-self-else-count-eq0 g c = record {
  known = ∥∥₁_map c.args.self.now.known
      (λ h. appends-more _ _ _ _ _ _ h c.in-Ok.ensures.bytes (c.and_all-self.ensures ∙ ap (λ l. l.items ++ take c.in-Ok.count c.args.bytes.now) c.replace-history.ensures.value));
}

pub invariant_of-self-in-Err : goal.invariant_of-self-in-Err
invariant_of-self-in-Err g c = record { known = ∥∥₁_map c.args.self.now.known (λ h. appends-kept _ _ _ _ h c.in-Err.ensures.bytes) }

pub returns-then-not-is_empty-clause-taken : goal.returns-then-not-is_empty-clause-taken
returns-then-not-is_empty-clause-taken g c = c.and_all-self.ensures ∙ ap (λ l. l.items ++ take c.in-Ok.count c.args.bytes.now) c.replace-history.ensures.value

pub returns-then-not-is_empty-clause-failures : goal.returns-then-not-is_empty-clause-failures
returns-then-not-is_empty-clause-failures g c = failed-once _ _ _ _ _ c.and-self.ensures c.if-count-eq0.true (sym c.is_empty.ensures ∙ c.if-not-is_empty.true)

pub returns-else-count-eq0-clause-taken : goal.returns-else-count-eq0-clause-taken
returns-else-count-eq0-clause-taken g c =
    let told = c.and_all-self.ensures ∙ ap (λ l. l.items ++ take c.in-Ok.count c.args.bytes.now) c.replace-history.ensures.value in
    elim c.else-count-eq0.branch [ else-count-eq0-via-then-count-eq0+else-not-is_empty w ↦ ap (λ s. s.taken.items) w.self-is ∙ told | else-count-eq0-via-else-count-eq0 w ↦ ap (λ s. s.taken.items) w.self-is ∙ told ]

pub returns-else-count-eq0-clause-failures : goal.returns-else-count-eq0-clause-failures
returns-else-count-eq0-clause-failures g c =
    elim c.else-count-eq0.branch [
      | else-count-eq0-via-then-count-eq0+else-not-is_empty w ↦ failed-not _ _ _ _ (ap (λ s. length s.failed.items) w.self-is) (λ z. sym w.is_empty.ensures ∙ w.if-not-is_empty.false)
      | else-count-eq0-via-else-count-eq0 w ↦ failed-not _ _ _ _ (ap (λ s. length s.failed.items) w.self-is) (λ z. absurd (w.if-count-eq0.false z))
    ]

pub returns-else-count-eq0-clause-contents : goal.returns-else-count-eq0-clause-contents
returns-else-count-eq0-clause-contents g c =
    elim c.else-count-eq0.branch [
      | else-count-eq0-via-then-count-eq0+else-not-is_empty w ↦ subst (λ s. Appends (g.W.Write.contents c.args.self.now.writer) (g.W.Write.contents s.writer) (take c.in-Ok.count c.args.bytes.now)) (sym w.self-is) c.in-Ok.ensures.bytes
      | else-count-eq0-via-else-count-eq0 w ↦ subst (λ s. Appends (g.W.Write.contents c.args.self.now.writer) (g.W.Write.contents s.writer) (take c.in-Ok.count c.args.bytes.now)) (sym w.self-is) c.in-Ok.ensures.bytes
    ]

pub returns-then-not-is_empty-clause-contents : goal.returns-then-not-is_empty-clause-contents
returns-then-not-is_empty-clause-contents g c = c.in-Ok.ensures.bytes

pub returns-in-Err-clause-taken : goal.returns-in-Err-clause-taken
returns-in-Err-clause-taken g c = sym (append-nil _)

pub returns-in-Err-clause-failures : goal.returns-in-Err-clause-failures
returns-in-Err-clause-failures g c = ap length c.and-self-in-Err.ensures ∙ length-append c.args.self.now.failed.items (tt ∷ [])
