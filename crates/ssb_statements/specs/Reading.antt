-- What the parts of a call of `next` do.
-- For the contracts inside this crate.
use Rattle.std.specs.Prelude.{◌≡◌, ◌<◌, ◌≤◌, ◌+◌, ◌==◌, ℕ, Bool, true, false, List, [], ◌∷◌, ◌++◌, length, take, drop, Option, Some, None, Result, Ok, Err, IfOk, if◌then◌else◌}
use Rattle.std.specs.Result.{is_err}
use Rattle.ssb_records.specs.Giving.{failures_of, given_of}
use Rattle.ssb_records.specs.declared.source.Source.{Ghosts as Source}
use Rattle.ssb_records.specs.declared.source.SourceFault.{SourceFault}
use Rattle.ssb_tokens.specs.Statements.{statements_of}
use Rattle.ssb_statements.specs.Cutting.{cut, told_text}
use Rattle.ssb_statements.specs.Reader.{Reader}
use Rattle.ssb_statements.specs.Telling.{IsCut, IsTold}
use Rattle.ssb_statements.specs.declared.buffer.StatementBuffer.{StatementBuffer}
use Rattle.ssb_statements.specs.declared.cutter.Cutter.{Cutter}
use Rattle.ssb_statements.specs.declared.cutter.Statement.{Statement}
use Rattle.ssb_statements.specs.declared.input.Input.{Input}

-- whether the end was met, by what a read answered
abbrev pub is_end_of : Result ℕ SourceFault → Bool
is_end_of (Ok n) = n == 0
is_end_of (Err e) = false

-- a source was read, unless it has ended
pub record WasRead {S : Type 0} {source : Source S} (old : Input S source) (result : Result ℕ SourceFault) (room : List ℕ) (new : Input S source) : Type 0 where
  pub bound : IfOk result (λ n. n ≤ length room)
  pub given : source.given new.source ≡ source.given old.source ++ given_of result room
  pub failures : source.failures new.source ≡ source.failures old.source + failures_of result
  pub ended : new.ended ≡ is_end_of result
  pub quiet : old.ended ≡ true → (new.source ≡ old.source) × (new.ended ≡ true)
  pub forth : source.ends old.source ≤ source.ends new.source
  pub whole : source.whole new.source ≡ source.whole old.source

-- the bytes that were read and that belong to no statement told so far
abbrev pub bytes_in : StatementBuffer → List ℕ
bytes_in b = b.taken.items ++ drop b.at (take b.end b.piece.items)

-- the bytes of the statement told last
abbrev pub text_in : StatementBuffer → List ℕ
text_in b = told_text b.cutter

-- all bytes of the piece were taken
abbrev pub IsSpent : StatementBuffer → Type 0
IsSpent b = b.at ≡ b.end

-- a source that is read through a buffer
abbrev pub read_through : {S : Type 0} {source : Source S} → Input S source → StatementBuffer → Reader S
read_through input buffer = record { source = input.source; ended = input.ended; ahead = bytes_in buffer; text = text_in buffer }

-- The end of the next statement was looked for: the bytes have it, or all of them were taken and have none.
abbrev pub Finds : StatementBuffer → Option Statement → StatementBuffer → Type 0
Finds old (Some t) new = (s : List ℕ) × IsTold t (text_in new) s × IsCut (bytes_in old) s (bytes_in new)
Finds old None new = (bytes_in new ≡ bytes_in old) × IsSpent new × ((s rest : List ℕ) → ¬ IsCut (bytes_in old) s rest)

-- the next piece is there, or the end was met, or a read failed
abbrev pub FillsBy : Result Bool SourceFault → List ℕ → Bool → Type 0
FillsBy (Ok true) fresh ended = (0 < length fresh) × (ended ≡ false)
FillsBy (Ok false) fresh ended = (fresh ≡ []) × (ended ≡ true)
FillsBy (Err e) fresh ended = (fresh ≡ []) × (ended ≡ false)

-- the next piece was read, behind bytes that were all taken
pub record Fills {S : Type 0} {source : Source S} (old : Input S source) (spent : StatementBuffer) (result : Result Bool SourceFault) (new : Input S source) (full : StatementBuffer) : Type 0 where
  pub fresh : List ℕ
  pub given : source.given new.source ≡ source.given old.source ++ fresh
  pub kept : bytes_in full ≡ bytes_in spent ++ fresh
  pub filled : FillsBy result fresh new.ended
  pub none : new.ended ≡ true → IsSpent full
  pub failures : source.failures new.source ≡ source.failures old.source + (if is_err result then 1 else 0)
  pub quiet : old.ended ≡ true → (new.source ≡ old.source) × (new.ended ≡ true)
  pub forth : source.ends old.source ≤ source.ends new.source
  pub whole : source.whole new.source ≡ source.whole old.source

-- the last statement at hand was told, if there is one
abbrev pub IsClosed : Option Statement → Cutter → Cutter → Type 0
IsClosed (Some t) old new = (s : List ℕ) × IsTold t (told_text new) s × (cut old.boundary [] ≡ s ∷ [])
IsClosed None old new = cut old.boundary [] ≡ []

-- the bytes are the last statement, or none
abbrev pub IsLast : Option Statement → List ℕ → List ℕ → Type 0
IsLast (Some t) bytes text = (s : List ℕ) × IsTold t text s × (statements_of bytes ≡ s ∷ [])
IsLast None bytes text = statements_of bytes ≡ []

-- the last statement was told
pub record Closes (old : StatementBuffer) (result : Option Statement) (new : StatementBuffer) : Type 0 where
  pub rest : bytes_in new ≡ []
  pub last : IsLast result (bytes_in old) (text_in new)
