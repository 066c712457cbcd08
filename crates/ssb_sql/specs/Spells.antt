-- Which query a text spells, and what reading a text answers.
-- Source: SQL-92, 7.9 <query specification>, cut down; the limits are this project's own.
use Rattle.std.specs.Prelude.{◌≡◌, ◌<◌, ◌≤◌, ℕ, List, length, Result, Ok, Err, ⊤}
use Rattle.ssb_sql.specs.declared.fault.SqlFault.{SqlFault}
use Rattle.ssb_sql.specs.declared.fault.SqlFault.TheVariants as fault
use Rattle.ssb_sql.specs.declared.select.Select.{Select}
use Rattle.ssb_tokens.specs.declared.token.Token.{Token}
use Rattle.ssb_sql.specs.Depth.{IsWithin}
use Rattle.ssb_sql.specs.Grammar.{Parses}
use Rattle.ssb_tokens.specs.Tokens.{IsTokens}

-- the text is a list of tokens, and those are the query
pub record Spells (text : List ℕ) (select : Select) : Type 0 where
  pub tokens : List Token
  pub is_text : IsTokens text tokens
  pub is_query : Parses tokens select

-- where the text is a list of tokens, no front of them has over 64 more `(` than `)`
abbrev pub IsShallow : List ℕ → Type 0
IsShallow text = (ts : List Token) → IsTokens text ts → IsWithin 64 ts

-- the text is a list of tokens, and some front of them has over 64 more `(` than `)`
pub record IsDeep (text : List ℕ) : Type 0 where
  pub tokens : List Token
  pub is_text : IsTokens text tokens
  pub beyond : IsWithin 64 tokens → ⊥

-- the text passes each check and spells the query
pub record IsRead (text : List ℕ) (select : Select) : Type 0 where
  pub short : length text ≤ 65536
  pub shallow : IsShallow text
  pub spells : Spells text select

-- the text is neither too long nor too deep, and spells no query: it may be no list of tokens at all
pub record IsNoQuery (text : List ℕ) : Type 0 where
  pub short : length text ≤ 65536
  pub shallow : IsShallow text
  pub none : (select : Select) → Spells text select → ⊥

-- what reading answers: the query that the text spells, or the first check that it does not pass
abbrev pub ReadsText : List ℕ → Result Select SqlFault → Type 0
ReadsText text (Ok select) = IsRead text select
ReadsText text (Err fault.TooLong) = 65536 < length text
ReadsText text (Err fault.TooDeep) = (length text ≤ 65536) × IsDeep text
ReadsText text (Err fault.Syntax) = IsNoQuery text
ReadsText text (Err fault.Memory) = ⊤

-- a text spells at most one query
abbrev pub OneSelect : Type 0
OneSelect = (text : List ℕ) (x y : Select) → Spells text x → Spells text y → x ≡ y
