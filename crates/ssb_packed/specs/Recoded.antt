-- Codes that a table has others for.
-- Source: own.
use Rattle.std.specs.Prelude.{ℕ, List, get_or}

-- the code that a table gives for a code, or 0
abbrev pub recoded : List ℕ → ℕ → ℕ
recoded table code = get_or table code 0
