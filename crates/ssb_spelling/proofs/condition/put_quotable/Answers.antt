use Rattle.std.proofs.Common.{sym, ◌∙◌, append_assoc, append-nil}
use Rattle.std.proofs.lemmas.Str.{IsUtf8-past_char}
use Rattle.ssb_spelling.proofs.ShownFacts.{quotable-empty, quotable-step}
use Rattle.ssb_spelling.proofs.condition.put_quotable.Goals as goal

pub loop-character-preserved : goal.loop-character-preserved
loop-character-preserved c =
    let held = c.loop-character.invariant in
    let parts = c.in-Some.ensures.steps.0 in
    let step = quotable-step _ _ c.in-Some.character held.0 parts in
    (IsUtf8-past_char _ _ c.in-Some.character held.0 parts, rw (c.in_ok-put_char.ensures, append_assoc) (rw step at held.1))

pub returns : goal.returns
returns c = sym (append-nil _) ∙ rw (quotable-empty _ c.in-None.ensures.steps.0.0) at c.loop-character.invariant.1
