use Rattle.std.proofs.Common.{◌∷◌, [], ap, sym, ◌∙◌}
use Rattle.ssb_tokens.specs.Reading.{seen}
use Rattle.ssb_tokens.proofs.ScanSteps.{first_is}
use Rattle.ssb_tokens.proofs.TokenFront.{mark_here}
use Rattle.ssb_tokens.proofs.TokenSound.{quote_is}
use Rattle.ssb_tokens.proofs.lexer.token.Goals as goal

pub text_token-requires : goal.text_token-requires
text_token-requires c =
    let rest = c.in-Some.rest.now in
    c.requires.behind [] rest (first_is c.args.bytes.now rest c.in-Some.byte (sym c.in-Some.ensures) ∙ ap (λ b. b ∷ rest) (quote_is c.in-Some.byte (sym c.class_of.ensures ∙ c.in-Quote.is)))

pub returns-in-Mark : goal.returns-in-Mark
returns-in-Mark c = mark_here c.args.bytes.now c.in-Some.rest.now c.in-Some.byte c.in-Mark.first (seen c.mark.result) (sym c.in-Some.ensures) (sym c.class_of.ensures ∙ c.in-Mark.is) c.mark.ensures
