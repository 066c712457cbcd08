-- What the parts of a step and of a session's loop do.
-- For the contracts inside this crate.
use Rattle.std.specs.Prelude.{Bool, true, false, Option, None, Some, Result, Ok, Err}
use Rattle.ssb_load.specs.Files.{Bytes}
use Rattle.ssb_reply.specs.declared.run_fault.RunFault.{RunFault}
use Rattle.ssb_reply.specs.declared.run_fault.RunFault.TheVariants as run
use Rattle.ssb_rows.specs.declared.fault.AnswerFault.TheVariants as answer
use Rattle.ssb_show.specs.declared.shape.Shape.{Shape}
use Rattle.ssb_answer.specs.Database.{Loaded}
use Rattle.ssb_answer.specs.Showing.{WritesSheet}
use Rattle.ssb_answer.specs.Steps.{AnswersStatement, Outcome, SinkState}
use Rattle.ssb_answer.specs.declared.session.SessionEnd.{SessionEnd}
use Rattle.ssb_answer.specs.declared.session.SessionEnd.TheVariants as end
use Rattle.ssb_answer.specs.declared.session.Step.{Step}
use Rattle.ssb_answer.specs.declared.session.Step.TheVariants as step

-- what comes of a statement, and what was written of it
pub record ShowsStatement (d : Loaded) (shape : Shape) (statement : Bytes) (r : Result (Unit {0}) RunFault) (old new : SinkState) : Type 0 where
  pub outcome : Outcome
  pub answers : AnswersStatement d statement outcome
  pub writes : WritesSheet shape outcome r old.taken new.taken old.failures new.failures

-- it is that rows could not be written
abbrev pub is_unwritten : RunFault → Bool
is_unwritten (run.Answer answer.Write) = true
is_unwritten (run.Answer (answer.RowOverflow n)) = false
is_unwritten (run.Answer answer.SumOutOfRange) = false
is_unwritten (run.Answer answer.Memory) = false
is_unwritten (run.Load t f) = false
is_unwritten (run.Sql f) = false
is_unwritten (run.Bind f) = false
is_unwritten run.Memory = false

-- why a session ends with a step, where it does: a fault that was told ends it where it stops
abbrev pub stop_if : Bool → Option SessionEnd
stop_if true = Some end.Stop
stop_if false = None

abbrev pub end_of : Bool → Step → Option SessionEnd
end_of stops step.End = Some end.Input
end_of stops step.Unread = Some end.Read
end_of stops (step.Answered (Ok u)) = None
end_of stops (step.Answered (Err e)) = Some end.Rows
end_of stops (step.Told f (Ok u)) = stop_if stops
end_of stops (step.Told f (Err e)) = Some end.Lines

-- the fault that a step told
abbrev pub fault_of : Step → Option RunFault
fault_of step.End = None
fault_of step.Unread = None
fault_of (step.Answered w) = None
fault_of (step.Told f w) = Some f
