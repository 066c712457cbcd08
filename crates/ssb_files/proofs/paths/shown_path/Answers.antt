use Rattle.std.proofs.Common.{sym, ◌∙◌, append_assoc, append-nil}
use Rattle.std.proofs.lemmas.Str.{IsUtf8-past_char}
use Rattle.ssb_files.proofs.ShownFacts.{shown-empty, shown-step}
use Rattle.ssb_files.proofs.paths.shown_path.Goals as goal

pub loop-character-preserved : goal.loop-character-preserved
loop-character-preserved c =
    let held = c.loop-character.invariant in
    let parts = c.in-Some.ensures.steps.0 in
    let step = shown-step _ _ c.in-Some.character held.0 parts in
    (IsUtf8-past_char _ _ c.in-Some.character held.0 parts, rw (c.in_ok-push_shown.ensures, append_assoc) (rw step at held.1))

pub returns : goal.returns
returns c = sym (append-nil _) ∙ rw (shown-empty _ c.in-None.ensures.steps.0.0) at c.loop-character.invariant.1
