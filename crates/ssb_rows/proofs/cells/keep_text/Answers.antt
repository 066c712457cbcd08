use Rattle.std.proofs.Common.{◌≡◌, ◌+◌, length, string_bytes, rules}
use Rattle.ssb_rows.proofs.KeptFacts.{keeps-more, new-span, new-text}
use Rattle.ssb_rows.proofs.cells.keep_text.Goals as goal

pub returns-in-Ok-clause-others : goal.returns-in-Ok-clause-others
returns-in-Ok-clause-others c = keeps-more _ _ _ c.in-Ok.ensures.bytes c.utf8.text

pub returns-in-Ok-clause-kept : goal.returns-in-Ok-clause-kept
returns-in-Ok-clause-kept c =
    let from : c.len-from.result ≡ length (string_bytes c.args.texts.now) = search rules in
    let end : c.len-end.result ≡ c.len-from.result + length c.args.text.now = search rules in
    new-span _ _ _ _ _ c.in-Ok.ensures.bytes c.utf8.text from end

pub returns-in-Ok-clause-value : goal.returns-in-Ok-clause-value
returns-in-Ok-clause-value c =
    let from : c.len-from.result ≡ length (string_bytes c.args.texts.now) = search rules in
    let end : c.len-end.result ≡ c.len-from.result + length c.args.text.now = search rules in
    new-text _ _ _ _ _ c.in-Ok.ensures.bytes from end
