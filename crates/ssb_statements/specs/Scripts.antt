-- What a script gives, and what comes next in it. What it gives as a source is a stretch: the bytes behind its last command.
-- Source: own.
use Rattle.std.specs.Prelude.{◌≡◌, ◌≤◌, ◌<◌, ◌+◌, ◌^◌, ◌⊎◌, ℕ, Bool, true, List, [], ◌∷◌, ◌++◌, length, take, Option, Some, None, Result, Ok, Err, OnOk, if◌then◌else◌}
use Rattle.std.specs.Result.{is_err}
use Rattle.ssb_records.specs.Lines.{IsPartOfLine}
use Rattle.ssb_records.specs.declared.source.Source.{Ghosts as Source}
use Rattle.ssb_records.specs.declared.source.SourceFault.{SourceFault}
use Rattle.ssb_statements.specs.Parting.{IsAtCommand}
use Rattle.ssb_statements.specs.Reader.{ScriptReader}
use Rattle.ssb_statements.specs.declared.script.Next.{Next}
use Rattle.ssb_statements.specs.declared.script.Next.TheVariants.{Command, Statements, End}

-- the source, as the reads left it
abbrev pub source_in : {S : Type 0} → ScriptReader S → S
source_in s = s.source

-- whether the source met its end
abbrev pub has_met_end : {S : Type 0} → ScriptReader S → Bool
has_met_end s = s.ended

-- the bytes that it gave behind the last command
abbrev pub stretch : {S : Type 0} → ScriptReader S → List ℕ
stretch s = s.stretch

-- the bytes that the source gave, and that it has not given
abbrev pub waiting : {S : Type 0} → ScriptReader S → List ℕ
waiting s = s.waiting

-- what is kept of the command told last
abbrev pub line_of : {S : Type 0} → ScriptReader S → List ℕ
line_of s = s.line

-- a source that met its end is not read again
abbrev pub IsQuiet : {S : Type 0} → ScriptReader S → ScriptReader S → Type 0
IsQuiet old new = has_met_end old ≡ true → (source_in new ≡ source_in old) × (has_met_end new ≡ true)

-- a read failed, or one line goes on for 2 ^ 64 - 1 bytes
abbrev pub Failed : {S : Type 0} → Source S → ScriptReader S → List ℕ → ScriptReader S → Type 0
Failed source old fresh new = (source.failures (source_in old) < source.failures (source_in new)) ⊎ (2 ^ 64 ≤ length (waiting old ++ fresh) + 1)

-- the next piece was read, where no byte waited; then none waits only at the end of the source
pub record Refills {S : Type 0} (source : Source S) (old : ScriptReader S) (result : Result (Unit {0}) SourceFault) (new : ScriptReader S) : Type 0 where
  pub fresh : List ℕ
  pub given : source.given (source_in new) ≡ source.given (source_in old) ++ fresh
  pub bytes : waiting new ≡ waiting old ++ fresh
  pub over : OnOk result (waiting new ≡ [] → has_met_end new ≡ true)
  pub failures : source.failures (source_in new) ≡ source.failures (source_in old) + (if is_err result then 1 else 0)
  pub same : stretch new ≡ stretch old
  pub line : line_of new ≡ line_of old
  pub ends : new.ends ≡ old.ends
  pub met : has_met_end new ≡ true → 0 < source.ends (source_in new)
  pub quiet : IsQuiet old new

-- the first byte that waits was taken
abbrev pub TakesFirst : Option ℕ → List ℕ → List ℕ → Type 0
TakesFirst None old new = (old ≡ []) × (new ≡ [])
TakesFirst (Some b) old new = old ≡ b ∷ new

pub record TakesByte {S : Type 0} (old : ScriptReader S) (result : Option ℕ) (new : ScriptReader S) : Type 0 where
  pub byte : TakesFirst result (waiting old) (waiting new)
  pub source : source_in new ≡ source_in old
  pub ended : has_met_end new ≡ has_met_end old
  pub same : stretch new ≡ stretch old
  pub line : line_of new ≡ line_of old

-- a line was taken to its line feed, or to the end of the source
pub record IsLine (bytes text rest : List ℕ) (over : Bool) : Type 0 where
  pub part : IsPartOfLine text
  pub split : (bytes ≡ text ++ 10 ∷ rest) ⊎ ((bytes ≡ text) × (rest ≡ []) × (over ≡ true))

-- a part of a line was taken, and no byte is lost
pub record IsPartTaken {S : Type 0} (source : Source S) (old : ScriptReader S) (fresh text : List ℕ) (new : ScriptReader S) : Type 0 where
  pub failed : Failed source old fresh new
  pub part : IsPartOfLine text
  pub kept : waiting old ++ fresh ≡ text ++ waiting new

abbrev pub TakesBy : {S : Type 0} → Source S → Result (Unit {0}) SourceFault → ScriptReader S → List ℕ → List ℕ → ScriptReader S → Type 0
TakesBy source (Ok u) old fresh text new = IsLine (waiting old ++ fresh) text (waiting new) (has_met_end new)
TakesBy source (Err e) old fresh text new = IsPartTaken source old fresh text new

-- the line that begins here was taken
pub record TakesLine {S : Type 0} (source : Source S) (old : ScriptReader S) (result : Result (Unit {0}) SourceFault) (new : ScriptReader S) : Type 0 where
  pub fresh : List ℕ
  pub given : source.given (source_in new) ≡ source.given (source_in old) ++ fresh
  pub text : List ℕ
  pub taken : TakesBy source result old fresh text new
  pub line : line_of new ≡ take 4096 text
  pub anew : stretch new ≡ []
  pub clean : OnOk result (source.failures (source_in new) ≡ source.failures (source_in old))
  pub met : has_met_end new ≡ true → 0 < source.ends (source_in new)
  pub quiet : IsQuiet old new

-- a command came next: behind it a new stretch begins
pub record IsCommand {S : Type 0} (old : ScriptReader S) (fresh : List ℕ) (new : ScriptReader S) : Type 0 where
  pub here : IsAtCommand (stretch old) (waiting old ++ fresh)
  pub text : List ℕ
  pub taken : IsLine (waiting old ++ fresh) text (waiting new) (has_met_end new)
  pub line : line_of new ≡ take 4096 text
  pub anew : stretch new ≡ []

-- statements come next: bytes wait, and they begin with no command
pub record AreStatements {S : Type 0} (old : ScriptReader S) (fresh : List ℕ) (new : ScriptReader S) : Type 0 where
  pub bytes : waiting new ≡ waiting old ++ fresh
  pub some : 0 < length (waiting new)
  pub none : ¬ IsAtCommand (stretch new) (waiting new)
  pub same : stretch new ≡ stretch old

-- nothing comes: the source met its end
pub record IsOver {S : Type 0} (old : ScriptReader S) (fresh : List ℕ) (new : ScriptReader S) : Type 0 where
  pub none : waiting old ++ fresh ≡ []
  pub rest : waiting new ≡ []
  pub ended : has_met_end new ≡ true
  pub same : stretch new ≡ stretch old

-- a read failed in a command's line: the first bytes of what came of the line are kept
pub record IsBegun {S : Type 0} (old : ScriptReader S) (fresh text : List ℕ) (new : ScriptReader S) : Type 0 where
  pub here : IsAtCommand (stretch old) (waiting old ++ fresh)
  pub part : IsPartOfLine text
  pub line : line_of new ≡ take 4096 text
  pub anew : stretch new ≡ []

-- nothing came because of a failure. No byte is lost: each waits, or is of a command that has begun.
pub record BreaksOff {S : Type 0} (source : Source S) (old : ScriptReader S) (fresh : List ℕ) (new : ScriptReader S) : Type 0 where
  pub failed : Failed source old fresh new
  pub text : List ℕ
  pub kept : waiting old ++ fresh ≡ text ++ waiting new
  pub command : ((text ≡ []) × (stretch new ≡ stretch old)) ⊎ IsBegun old fresh text new

abbrev pub ComesBy : {S : Type 0} → Source S → Result Next SourceFault → ScriptReader S → List ℕ → ScriptReader S → Type 0
ComesBy source (Ok Command) old fresh new = IsCommand old fresh new
ComesBy source (Ok Statements) old fresh new = AreStatements old fresh new
ComesBy source (Ok End) old fresh new = IsOver old fresh new
ComesBy source (Err e) old fresh new = BreaksOff source old fresh new

-- a call of `next`
pub record Comes {S : Type 0} (source : Source S) (old : ScriptReader S) (result : Result Next SourceFault) (new : ScriptReader S) : Type 0 where
  -- the source gave these bytes
  pub fresh : List ℕ
  pub given : source.given (source_in new) ≡ source.given (source_in old) ++ fresh
  pub comes : ComesBy source result old fresh new
  -- an answer comes only where no read failed
  pub clean : OnOk result (source.failures (source_in new) ≡ source.failures (source_in old))
  -- the source has met its end where the script says so, and is not read again then
  pub over : has_met_end new ≡ true → 0 < source.ends (source_in new)
  pub quiet : IsQuiet old new
