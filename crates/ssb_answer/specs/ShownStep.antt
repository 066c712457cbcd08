-- What a text answers, with the titles of its query.
-- For the contracts inside this crate.
use Rattle.std.specs.Prelude.{◌≡◌, ◌⊎◌, ℕ, List, Result, Ok, Err, map, string_bytes}
use Rattle.ssb_catalog.specs.Shapes.{TableShape}
use Rattle.ssb_cells.specs.Tables.{Columns}
use Rattle.ssb_load.specs.Files.{Bytes}
use Rattle.ssb_reply.specs.declared.run_fault.RunFault.{RunFault}
use Rattle.ssb_reply.specs.declared.run_fault.RunFault.TheVariants as run
use Rattle.ssb_reply.specs.Reply.{seen_rows}
use Rattle.ssb_reply.specs.Told.{told_answer}
use Rattle.ssb_plan.specs.JobShape.{JobShape}
use Rattle.ssb_rows.specs.Result.{Answers}
use Rattle.ssb_rows.specs.declared.fault.AnswerFault.{AnswerFault}
use Rattle.ssb_spelling.specs.Titles.{column_titles}
use Rattle.ssb_show.specs.declared.shape.Shape.{Shape}
use Rattle.ssb_answer.specs.Asking.{AnswersText}
use Rattle.ssb_answer.specs.Showing.{AnswersSheet, Sheet, WritesSheet}
use Rattle.ssb_answer.specs.declared.show.Titled.{Titled}

abbrev pub sheet_of : Titled → Sheet
sheet_of t = record { titles = map string_bytes t.titles.items; rows = t.answer }

abbrev pub AnswersTitled : List TableShape → List Columns → Bytes → Result Titled RunFault → Type 0
AnswersTitled c tables text (Ok t) = AnswersSheet c tables text (Ok (sheet_of t))
AnswersTitled c tables text (Err f) = AnswersText c tables text (Err f)

-- what a job answers, with its titles
abbrev pub TitlesJob : List TableShape → JobShape → Result Titled RunFault → Type 0
TitlesJob c j (Ok t) = Answers j.query (seen_rows j) (Ok t.answer) × (map string_bytes t.titles.items ≡ column_titles c j.query)
TitlesJob c j (Err f) = (f ≡ run.Memory) ⊎ ((e : AnswerFault) × Answers j.query (seen_rows j) (Err e) × (f ≡ told_answer e))

-- what is written of it: a fault is passed on, and no room for the widths of columns is one, with nothing written
abbrev pub ShowsTitled : Shape → Result Titled RunFault → Result (Unit {0}) RunFault → Bytes → Bytes → ℕ → ℕ → Type 0
ShowsTitled shape (Err f) r old new failed_old failed_new = WritesSheet shape (Err f) r old new failed_old failed_new
ShowsTitled shape (Ok t) r old new failed_old failed_new = WritesSheet shape (Err run.Memory) r old new failed_old failed_new ⊎ WritesSheet shape (Ok (sheet_of t)) r old new failed_old failed_new
