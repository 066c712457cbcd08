-- A step of a session: the next statement of an input is answered over tables that were loaded once.
-- Source: own.
use Rattle.std.specs.Prelude.{◌≡◌, ◌<◌, ◌≤◌, ◌++◌, [], ℕ, Bool, true, false, None, Some, Result, Ok, Err, IsUtf8, is_ok, length}
use Rattle.ssb_load.specs.Files.{Bytes}
use Rattle.ssb_records.specs.declared.source.Source.{Ghosts as Source}
use Rattle.ssb_records.specs.declared.source.SourceFault.{SourceFault}
use Rattle.ssb_sql.specs.declared.fault.SqlFault.TheVariants as sql
use Rattle.ssb_rows.specs.Taking.{IsBeginning}
use Rattle.ssb_rows.specs.declared.sink.Sink.{Ghosts as Sink}
use Rattle.ssb_rows.specs.declared.sink.SinkFault.{SinkFault}
use Rattle.ssb_reply.specs.FaultLine.{line_of, run_words}
use Rattle.ssb_reply.specs.declared.run_fault.RunFault.{RunFault}
use Rattle.ssb_reply.specs.declared.run_fault.RunFault.TheVariants as run
use Rattle.ssb_show.specs.Shown.{shown}
use Rattle.ssb_show.specs.declared.shape.Shape.{Shape}
use Rattle.ssb_statements.specs.Telling.{Gave}
use Rattle.ssb_statements.specs.declared.cutter.Statement.{Statement}
use Rattle.ssb_statements.specs.declared.statements.Statements.{Statements}
use Rattle.ssb_answer.specs.Database.{Loaded}
use Rattle.ssb_answer.specs.Showing.{AnswersSheet, Sheet}
use Rattle.ssb_answer.specs.declared.session.Step.{Step}
use Rattle.ssb_answer.specs.declared.session.Step.TheVariants as step

-- the rows of a statement under their titles, or its fault
abbrev pub Outcome : Type 0
Outcome = Result Sheet RunFault

-- What comes of a statement: what its text asks of the tables. Bytes that are no UTF-8 are no query.
pub data AnswersStatement (d : Loaded) : Bytes → Outcome → Type 0 where
  asked : {s : Bytes} {r : Outcome} → IsUtf8 s → AnswersSheet d.catalog d.tables s r → AnswersStatement d s r
  too_long : {s : Bytes} → 65536 < length s → AnswersStatement d s (Err (run.Sql sql.TooLong))
  no_text : {s : Bytes} → length s ≤ 65536 → (IsUtf8 s → ⊥) → AnswersStatement d s (Err (run.Sql sql.Syntax))
  refused : {s : Bytes} → AnswersStatement d s (Err run.Memory)

-- what is written of it: its rows in a shape, or the line of its fault
abbrev pub rows_text : Shape → Outcome → Bytes
rows_text shape (Ok s) = shown shape s.titles s.rows
rows_text shape (Err f) = []

abbrev pub fault_text : Outcome → Bytes
fault_text (Ok s) = []
fault_text (Err f) = line_of (run_words [] f)

-- a sink: the bytes that it took, and how often it failed
pub record SinkState : Type 0 where
  pub taken : Bytes
  pub failures : ℕ

abbrev pub sink_state : {W : Type 0} → Sink W → W → SinkState
sink_state sink w = record { taken = sink.taken w; failures = sink.failures w }

-- a sink took a text, or a beginning of it, where a write failed
abbrev pub Took : Bool → Bytes → SinkState → SinkState → Type 0
Took true text old new = (new.taken ≡ old.taken ++ text) × (new.failures ≡ old.failures)
Took false text old new = IsBeginning old.taken new.taken text × (old.failures < new.failures)

-- where a session is: the statements of its input, the sink of rows and that of lines
pub record SessionState (S : Type 0) : Type 0 where
  pub statements : Statements S
  pub rows : SinkState
  pub lines : SinkState

abbrev pub session_state : {S : Type 0} → Statements S → SinkState → SinkState → SessionState S
session_state statements rows lines = record { statements = statements; rows = rows; lines = lines }

-- nothing was written
pub record IsSilent {S : Type 0} (old new : SessionState S) : Type 0 where
  pub rows : new.rows ≡ old.rows
  pub lines : new.lines ≡ old.lines

-- A step over a database, with rows in a shape: nothing came of the input, a statement was answered, or a fault was told.
pub data DoesStep {S : Type 0} (source : Source S) (d : Loaded) (shape : Shape) (old new : SessionState S) : Step → Type 0 where
  ended : Gave source old.statements (Ok None) new.statements → IsSilent old new → DoesStep source d shape old new step.End
  unread : {e : SourceFault} → Gave source old.statements (Err e) new.statements → IsSilent old new → DoesStep source d shape old new step.Unread
  answered : {t : Statement} {sheet : Sheet} {w : Result (Unit {0}) SinkFault} → (g : Gave source old.statements (Ok (Some t)) new.statements) → AnswersStatement d g.answer.statement (Ok sheet)
      → Took (is_ok w) (shown shape sheet.titles sheet.rows) old.rows new.rows → new.lines ≡ old.lines → DoesStep source d shape old new (step.Answered w)
  told : {t : Statement} {f : RunFault} {w : Result (Unit {0}) SinkFault} → (g : Gave source old.statements (Ok (Some t)) new.statements) → AnswersStatement d g.answer.statement (Err f)
      → Took (is_ok w) (line_of (run_words [] f)) old.lines new.lines → new.rows ≡ old.rows → DoesStep source d shape old new (step.Told f w)
