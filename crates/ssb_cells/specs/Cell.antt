-- What a contract sees of a value.
-- Source: SQL-92, 4.1 (null is in every type) and 4.4 (whole numbers); texts by their bytes are this project's own.
use Rattle.std.specs.Prelude.{ℕ, ℤ, List}

-- null, a number or a text's bytes
pub data Cell : Type 0 where
  null : Cell
  number : ℤ → Cell
  text : List ℕ → Cell
