-- What cutting a text of many statements has to do with the text's tokens.
-- Source: own; `CutsAtSemicolons` is a law of the statements.
use Rattle.std.specs.Prelude.{ℕ, Bool, true, false, if◌then◌else◌, List, [], ◌∷◌, ◌++◌}
use Rattle.std.specs.List.{AllZip}
use Rattle.ssb_tokens.specs.declared.token.Mark.TheVariants as marks
use Rattle.ssb_tokens.specs.declared.token.Sign.TheVariants as s
use Rattle.ssb_tokens.specs.declared.token.Token.{Token}
use Rattle.ssb_tokens.specs.declared.token.Token.TheVariants.{Fixed}
use Rattle.ssb_tokens.specs.Statements.{if_any, statements_of, within}
use Rattle.ssb_tokens.specs.Tokens.{IsTokens}

-- the token `;`
abbrev pub is_semicolon : Token → Bool
is_semicolon (Fixed (s.Mark marks.Semicolon)) = true
is_semicolon _ = false

-- the statements of a list of tokens, of which the first has these tokens so far
unfoldable pub token_statements_from : List Token → List Token → List (List Token)
token_statements_from so_far [] = if_any so_far
token_statements_from so_far (t ∷ ts) =
    if is_semicolon t then if_any (within so_far t) ++ token_statements_from [] ts
    else token_statements_from (so_far ++ t ∷ []) ts

-- the list of tokens, cut behind each `;`: a statement of no token but its `;` is none
abbrev pub token_statements : List Token → List (List Token)
token_statements ts = token_statements_from [] ts

-- of a text that is a list of tokens, the statements are cut where the tokens are: the first is the first statement's tokens, and so on
abbrev pub CutsAtSemicolons : Type 0
CutsAtSemicolons = (text : List ℕ) (ts : List Token) → IsTokens text ts → AllZip IsTokens (statements_of text) (token_statements ts)
