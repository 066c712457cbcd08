-- What readers have of their sources.
-- Source: own.
use Rattle.std.specs.Prelude.{ℕ, Bool, List}

-- a source that is read for its statements
pub record Reader (S : Type 0) : Type 0 where
  -- the source, as the reads left it
  pub source : S
  -- whether it met its end
  pub ended : Bool
  -- the bytes that it gave and that belong to no statement told so far
  pub ahead : List ℕ
  -- the bytes of the statement told last
  pub text : List ℕ

-- a source that is read as a script
pub record ScriptReader (S : Type 0) : Type 0 where
  -- the source, as the reads left it
  pub source : S
  -- whether it met its end
  pub ended : Bool
  -- the bytes that the script gave behind the last command
  pub stretch : List ℕ
  -- the bytes that the source gave, and that the script has not given
  pub waiting : List ℕ
  -- what is kept of the command told last
  pub line : List ℕ
  -- how often the stretch was told to have ended
  pub ends : ℕ
