-- What is shown of what a text asks: of tables that were loaded once, and of files.
-- Source: own.
use Rattle.std.specs.Prelude.{◌≡◌, ◌++◌, ◌<◌, ℕ, List, Result, Ok, Err}
use Rattle.ssb_catalog.specs.Shapes.{TableShape}
use Rattle.ssb_cells.specs.Tables.{Columns}
use Rattle.ssb_load.specs.Files.{Bytes, loaded}
use Rattle.ssb_rows.specs.Order.{Row}
use Rattle.ssb_rows.specs.Taking.{IsBeginning}
use Rattle.ssb_rows.specs.declared.fault.AnswerFault.TheVariants as answer
use Rattle.ssb_reply.specs.Reply.{Answered, Replies}
use Rattle.ssb_reply.specs.declared.run_fault.RunFault.{RunFault}
use Rattle.ssb_reply.specs.declared.run_fault.RunFault.TheVariants as run
use Rattle.ssb_show.specs.Shown.{plain, shown}
use Rattle.ssb_spelling.specs.Titles.{column_titles}
use Rattle.ssb_show.specs.declared.shape.Shape.{Shape}
use Rattle.ssb_answer.specs.Asking.{AnswersText, IsAnswered}
use Rattle.ssb_answer.specs.Database.{RepliesOver}

-- rows, and the titles of their columns
pub record Sheet : Type 0 where
  pub titles : List Bytes
  pub rows : List Row

-- A text is written whole, unless the sink fails, and then a beginning of it. The bytes that the sink had taken before and after, and how often it had failed.
abbrev pub WritesText : Bytes → Result (Unit {0}) RunFault → Bytes → Bytes → ℕ → ℕ → Type 0
WritesText text (Ok u) old new failed_old failed_new = (new ≡ old ++ text) × (failed_new ≡ failed_old)
WritesText text (Err f) old new failed_old failed_new = (f ≡ run.Answer answer.Write) × (IsBeginning old new text × (failed_old < failed_new))

-- a fault is passed on and nothing is written; a sheet is written in the shape
abbrev pub WritesSheet : Shape → Result Sheet RunFault → Result (Unit {0}) RunFault → Bytes → Bytes → ℕ → ℕ → Type 0
WritesSheet shape (Err f) r old new failed_old failed_new = (r ≡ Err f) × (new ≡ old) × (failed_new ≡ failed_old)
WritesSheet shape (Ok s) r old new failed_old failed_new = WritesText (shown shape s.titles s.rows) r old new failed_old failed_new

-- ---- over tables

-- what a text answers over these tables: the rows under the titles of the query that it asks, or its fault
abbrev pub AnswersSheet : List TableShape → List Columns → Bytes → Result Sheet RunFault → Type 0
AnswersSheet c tables text (Ok s) = (a : IsAnswered c tables text (Ok s.rows)) × (s.titles ≡ column_titles c a.query)
AnswersSheet c tables text (Err f) = AnswersText c tables text (Err f)

-- what is shown of a text over these tables: what it answers there, written in the shape
pub record ShowsOver (c : List TableShape) (tables : List Columns) (shape : Shape) (text : Bytes) (r : Result (Unit {0}) RunFault) (old new : Bytes) (failures_old failures_new : ℕ) : Type 0 where
  pub answered : Result Sheet RunFault
  pub answers : AnswersSheet c tables text answered
  pub writes : WritesSheet shape answered r old new failures_old failures_new

-- the plain shape shows just what is replied
abbrev pub PlainShowsReplies : Type 0
PlainShowsReplies = (c : List TableShape) (tables : List Columns) (text : Bytes) (r : Result (Unit {0}) RunFault) (old new : Bytes) (m n : ℕ)
    → (ShowsOver c tables plain text r old new m n → RepliesOver c tables text r old new m n) × (RepliesOver c tables text r old new m n → ShowsOver c tables plain text r old new m n)

-- ---- over files

-- the rows that a text answers over the tables of files, under the titles of the query that it asks
pub record IsSheet (c : List TableShape) (files : List Bytes) (text : Bytes) (s : Sheet) : Type 0 where
  pub answered : Answered c files text (Ok s.rows)
  pub titles : s.titles ≡ column_titles c answered.query

-- What is shown of a text over files: what a run replies, with the rows in the shape under their titles. A failed write leaves a beginning of it.
abbrev pub ShowsFiles : List TableShape → List Bytes → Shape → Bytes → Result (Unit {0}) RunFault → Bytes → Bytes → Type 0
ShowsFiles c files shape text (Ok u) old new = (s : Sheet) × IsSheet c files text s × (new ≡ old ++ shown shape s.titles s.rows)
ShowsFiles c files shape text (Err (run.Answer answer.Write)) old new = (s : Sheet) × IsSheet c files text s × IsBeginning old new (shown shape s.titles s.rows)
ShowsFiles c files shape text (Err f) old new = Replies c files text (Err f) old new × (new ≡ old)

-- what is shown over the tables of files is what is shown of the files
abbrev pub ShowsOfFiles : Type 0
ShowsOfFiles = (c : List TableShape) (files : List Bytes) (tables : List Columns) (shape : Shape) (text : Bytes) (r : Result (Unit {0}) RunFault) (old new : Bytes) (m n : ℕ)
    → loaded c files ≡ Ok tables → ShowsOver c tables shape text r old new m n → ShowsFiles c files shape text r old new
