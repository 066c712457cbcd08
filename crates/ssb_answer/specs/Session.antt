-- A session: each statement of an input is answered over tables that were loaded once, one after the other.
-- Source: own.
use Rattle.std.specs.Prelude.{◌≡◌, ◌<◌, ◌≤◌, ◌+◌, ◌^◌, ◌⊎◌, ◌++◌, [], ◌∷◌, Bool, true, false, List, Option, None, Some, Result, Ok, Err, IfSome, IsSome, IsUtf8, length, map}
use Rattle.std.specs.List.{AllZip, flat_map}
use Rattle.ssb_load.specs.Files.{Bytes, loaded}
use Rattle.ssb_records.specs.declared.source.Source.{Ghosts as Source}
use Rattle.ssb_reply.specs.Reply.{Replies}
use Rattle.ssb_reply.specs.declared.run_fault.RunFault.{RunFault}
use Rattle.ssb_show.specs.Shown.{plain}
use Rattle.ssb_show.specs.declared.shape.Shape.{Shape}
use Rattle.ssb_statements.specs.Telling.{Whatever, ahead, has_ended, source_of}
use Rattle.ssb_statements.specs.declared.statements.Statements.{Statements}
use Rattle.ssb_tokens.specs.Statements.{statements_of}
use Rattle.ssb_answer.specs.Database.{Loaded}
use Rattle.ssb_answer.specs.Showing.{Sheet, ShowsFiles}
use Rattle.ssb_answer.specs.Steps.{AnswersStatement, Outcome, SessionState, Took, fault_text, rows_text}
use Rattle.ssb_answer.specs.declared.session.Manner.{Manner}
use Rattle.ssb_answer.specs.declared.session.SessionOutcome.{SessionOutcome}
use Rattle.ssb_answer.specs.declared.session.SessionEnd.{SessionEnd}
use Rattle.ssb_answer.specs.declared.session.SessionEnd.TheVariants as end

-- Some statements of an input were answered over a database, one after the other. Its source gave these bytes meanwhile. The sink of rows took the text of each
-- answer in the shape, and that of lines the line of each fault, whole unless a write of it failed.
pub record Went {S : Type 0} (source : Source S) (d : Loaded) (shape : Shape) (rows_whole lines_whole : Bool) (old new : SessionState S) : Type 0 where
  pub fresh : Bytes
  pub given : source.given (source_of new.statements) ≡ source.given (source_of old.statements) ++ fresh
  pub statements : List Bytes
  pub cut : Whatever (has_ended new.statements) (λ more. statements_of (ahead old.statements ++ (fresh ++ more)) ≡ statements ++ statements_of (ahead new.statements ++ more))
  pub outcomes : List Outcome
  pub each : AllZip (AnswersStatement d) statements outcomes
  pub rows : Took rows_whole (flat_map (rows_text shape) outcomes) old.rows new.rows
  pub lines : Took lines_whole (flat_map fault_text outcomes) old.lines new.lines
  -- once the input has ended, it gives no byte, and stays so
  pub quiet : has_ended old.statements ≡ true → (fresh ≡ []) × (has_ended new.statements ≡ true)

-- the first of two faults
abbrev pub first_of : Option RunFault → Option RunFault → Option RunFault
first_of (Some f) g = Some f
first_of None g = g

-- the first fault, where there is one
abbrev pub first_fault : List Outcome → Option RunFault
first_fault [] = None
first_fault (Ok s ∷ rs) = first_fault rs
first_fault (Err f ∷ rs) = Some f

-- whether the rows, and the lines, were written whole
abbrev pub wrote_rows : SessionEnd → Bool
wrote_rows end.Rows = false
wrote_rows _ = true

abbrev pub wrote_lines : SessionEnd → Bool
wrote_lines end.Lines = false
wrote_lines _ = true

-- at most the last of these is a fault
pub record StopsAtFault (outcomes : List Outcome) : Type 0 where
  pub answers : List Sheet
  pub last : List Outcome
  pub all : outcomes ≡ map Ok answers ++ last
  pub one : length last ≤ 1

-- the source of some statements met its end, once at least, and no byte is left
pub record HasMetEnd {S : Type 0} (source : Source S) (statements : Statements S) : Type 0 where
  pub ended : has_ended statements ≡ true
  pub met : 0 < source.ends (source_of statements)
  pub rest : ahead statements ≡ []

-- What a session did.
pub record IsSession {S : Type 0} (source : Source S) (d : Loaded) (manner : Manner) (r : SessionOutcome) (old new : SessionState S) : Type 0 where
  pub went : Went source d manner.shape (wrote_rows r.end) (wrote_lines r.end) old new
  pub first : r.first ≡ first_fault went.outcomes
  -- where the input ended, its source met its end, nothing was left, and the statements are all of it
  pub met : r.end ≡ end.Input → HasMetEnd source new.statements
  pub all : r.end ≡ end.Input → statements_of (ahead old.statements ++ went.fresh) ≡ went.statements
  -- where the first fault is to end it, no statement behind that is answered; else no fault ends it
  pub stopped : manner.stops ≡ true → StopsAtFault went.outcomes
  pub stop : r.end ≡ end.Stop → (manner.stops ≡ true) × IsSome r.first
  -- it gives the input up only where a read failed, or bytes or statements came without an end
  pub broken : r.end ≡ end.Read → (source.failures (source_of old.statements) < source.failures (source_of new.statements)) ⊎ ((2 ^ 64 ≤ length went.fresh + 1) ⊎ (2 ^ 64 ≤ length went.outcomes + 1))

-- what a run tells of an outcome
abbrev pub told : Outcome → Result (Unit {0}) RunFault
told (Ok s) = Ok tt
told (Err f) = Err f

-- a statement's outcome over the tables of files is what a run of its own over these files replies, with the same bytes written in the plain shape
abbrev pub OutcomesAreReplies : Type 0
OutcomesAreReplies = (d : Loaded) (files : List Bytes) (s : Bytes) (r : Outcome) (old : Bytes) → loaded d.catalog files ≡ Ok d.tables → IsUtf8 s → AnswersStatement d s r
    → Replies d.catalog files s (told r) old (old ++ rows_text plain r)

-- and in any shape it is what is shown of those files
abbrev pub OutcomesAreShown : Type 0
OutcomesAreShown = (d : Loaded) (files : List Bytes) (shape : Shape) (s : Bytes) (r : Outcome) (old : Bytes) → loaded d.catalog files ≡ Ok d.tables → IsUtf8 s → AnswersStatement d s r
    → ShowsFiles d.catalog files shape s (told r) old (old ++ rows_text shape r)

-- statements are those of all bytes that a source gave, and of all its bytes, where it tells them
pub record AreOfAll {S : Type 0} (source : Source S) (statements : List Bytes) (s : S) : Type 0 where
  pub given : statements ≡ statements_of (source.given s)
  pub told : IfSome (source.whole s) (λ all. statements ≡ statements_of all)

-- where a session ends with its input, over a source that had given nothing, its statements are those of all bytes
abbrev pub SessionsAreWhole : {S : Type 0} → Source S → Type 0
SessionsAreWhole {S = S} source = (d : Loaded) (manner : Manner) (r : SessionOutcome) (old new : SessionState S) → (is : IsSession source d manner r old new)
    → r.end ≡ end.Input → ahead old.statements ≡ [] → source.given (source_of old.statements) ≡ [] → AreOfAll source is.went.statements (source_of new.statements)
