-- How deep parentheses may nest.
-- Source: own; SQL-92 sets no limit.
use Rattle.std.specs.Prelude.{◌≡◌, ◌≤◌, ◌+◌, ℕ, Bool, true, false, List, ◌++◌, length, filter}
use Rattle.ssb_tokens.specs.declared.token.Token.{Token}
use Rattle.ssb_tokens.specs.declared.token.Token.TheVariants.{Fixed}
use Rattle.ssb_tokens.specs.declared.token.Mark.TheVariants as marks
use Rattle.ssb_tokens.specs.declared.token.Sign.TheVariants as s

-- `(`
abbrev pub is_open : Token → Bool
is_open (Fixed (s.Mark marks.Open)) = true
is_open _ = false

-- `)`
abbrev pub is_close : Token → Bool
is_close (Fixed (s.Mark marks.Close)) = true
is_close _ = false

-- how many `(` there are, and how many `)`
abbrev pub opened : List Token → ℕ
opened ts = length (filter is_open ts)

abbrev pub closed : List Token → ℕ
closed ts = length (filter is_close ts)

-- no front of the tokens has over n more `(` than `)`
abbrev pub IsWithin : ℕ → List Token → Type 0
IsWithin n ts = (front rest : List Token) → ts ≡ front ++ rest → opened front ≤ closed front + n
