use Rattle.std.proofs.Common.{◌≡◌, false, true, subst}
use Rattle.std.specs.Str.{IsUtf8}
use Rattle.ssb_tokens.proofs.TextUtf8.{literal_utf8}
use Rattle.ssb_tokens.proofs.TokenSound.{text_sound}
use Rattle.ssb_tokens.proofs.lexer.text_token.Goals as goal

pub unreachable-requires : goal.unreachable-requires
unreachable-requires c =
    let letters = c.in_ok-letters.letters.items in
    let rest = c.in_ok-letters.rest.now in
    let t = text_sound false c.args.bytes.now (letters, rest) c.in_ok-letters.ensures in
    let no : false ≡ true = c.in_default.ensures.succeeds (literal_utf8 letters rest (subst IsUtf8 t.whole c.requires)) in
    cc
