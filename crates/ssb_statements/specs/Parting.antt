-- A script mixes statements and lines that are commands: such a line begins with a `.`, and no statement is at hand before it.
-- Source: own, as the shells of databases have it.
use Rattle.std.specs.Prelude.{◌≡◌, ◌≤◌, ◌-◌, ℕ, Bool, true, ◌==◌, List, [], ◌∷◌, ◌++◌, drop, length}
use Rattle.ssb_tokens.specs.Statements.{statements_of}
use Rattle.ssb_tokens.specs.Tokens.{begins}

-- whether a line begins behind these bytes
unfoldable pub begins_line : List ℕ → Bool
begins_line [] = true
begins_line (b ∷ []) = b == 10
begins_line (b ∷ c ∷ bs) = begins_line (c ∷ bs)

-- no statement is at hand behind these bytes: what follows is cut as if it stood alone
abbrev pub IsBetween : List ℕ → Type 0
IsBetween text = (more : List ℕ) → statements_of (text ++ more) ≡ statements_of text ++ statements_of more

-- a `.` behind these bytes, which stand behind the last command, begins a command
pub record IsBeforeCommand (text : List ℕ) : Type 0 where
  pub line : begins_line text ≡ true
  pub between : IsBetween text

abbrev pub is_dot : ℕ → Bool
is_dot b = b == 46

-- these bytes begin with a command, where these were given before
pub record IsAtCommand (given bytes : List ℕ) : Type 0 where
  pub here : IsBeforeCommand given
  pub dot : begins is_dot bytes ≡ true

-- a stretch ends before these bytes: unless they begin with a command, none is left and the source met its end
abbrev pub EndsBefore : List ℕ → List ℕ → Bool → Type 0
EndsBefore stretch bytes over = ¬ IsAtCommand stretch bytes → (bytes ≡ []) × (over ≡ true)

-- no byte of these begins a command
abbrev pub HasNoCommand : List ℕ → Type 0
HasNoCommand text = (front back : List ℕ) → text ≡ front ++ 46 ∷ back → ¬ IsBeforeCommand front

-- these bytes are the last of all
pub record IsEndOf (all bytes : List ℕ) : Type 0 where
  pub within : length bytes ≤ length all
  pub same : drop (length all - length bytes) all ≡ bytes
