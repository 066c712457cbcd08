-- What the list of tokens of a text is, or why it has none.
-- Source: own; `OneListOfTokens` is a law of the tokens.
use Rattle.std.specs.Prelude.{◌≡◌, ℕ, List, Result, Ok, Err}
use Rattle.ssb_tokens.specs.declared.stop.Stop.{Stop}
use Rattle.ssb_tokens.specs.declared.stop.Stop.TheVariants as stop
use Rattle.ssb_tokens.specs.declared.token.Token.{Token}
use Rattle.ssb_tokens.specs.Tokens.{IsTokens}

-- Syntax: the text is no list of tokens; of memory nothing is said
abbrev pub HasNoTokens : Stop → List ℕ → Type 0
HasNoTokens stop.Syntax text = (ts : List Token) → IsTokens text ts → ⊥
HasNoTokens stop.Memory text = Unit {0}

-- the tokens that a text is made of, or that there are none
abbrev pub Lexes : List ℕ → Result (List Token) Stop → Type 0
Lexes text (Ok ts) = IsTokens text ts
Lexes text (Err e) = HasNoTokens e text

-- a text is at most one list of tokens
abbrev pub OneListOfTokens : Type 0
OneListOfTokens = (text : List ℕ) (ts us : List Token) → IsTokens text ts → IsTokens text us → ts ≡ us
