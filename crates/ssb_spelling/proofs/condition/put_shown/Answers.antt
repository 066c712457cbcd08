use Rattle.std.proofs.Common.{◌∙◌, ◌++◌, ◌∷◌, [], append_assoc, append-nil, sym, ap, refl, subst, ◌≤◌}
use Rattle.std.proofs.lemmas.Str.{encodes-append}
use Rattle.ssb_spelling.proofs.condition.put_shown.Goals as goal

pub loop-mark-preserved : goal.loop-mark-preserved
loop-mark-preserved c =
    let l = c.loop-mark in
    let mark = c.in-Some.mark in (
      c.in_ok-push.ensures.bytes ∙ rw (l.invariant.0, encodes-append, append-nil, append_assoc) refl,
      append_assoc l.yielded (mark ∷ []) _ ∙ ap (λ t. l.yielded ++ t) (sym c.in-Some.ensures.steps.1.0) ∙ l.invariant.1,
      subst (λ n. n ≤ 10) (sym c.in-Some.ensures.steps.0) l.invariant.2,
    )
