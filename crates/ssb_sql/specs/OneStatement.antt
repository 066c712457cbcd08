-- The text of a query among texts of many statements.
-- Source: own; `OneStatement` is a law of the query language.
use Rattle.std.specs.Prelude.{◌≡◌, ℕ, List, [], ◌∷◌}
use Rattle.ssb_tokens.specs.Statements.{statements_of}
use Rattle.ssb_sql.specs.declared.select.Select.{Select}
use Rattle.ssb_sql.specs.Spells.{IsRead}

-- the text has one statement, which reads as the query
pub record IsOneStatement (text : List ℕ) (select : Select) : Type 0 where
  pub statement : List ℕ
  pub all : statements_of text ≡ statement ∷ []
  pub is_read : IsRead statement select

-- the text of a query has one statement, which reads as the same query
abbrev pub OneStatement : Type 0
OneStatement = (text : List ℕ) (select : Select) → IsRead text select → IsOneStatement text select
