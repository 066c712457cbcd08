-- What is answered over tables that were loaded once.
-- Source: own.
use Rattle.std.specs.Prelude.{◌≡◌, ℕ, List, Result, Ok, Err}
use Rattle.ssb_catalog.specs.Shapes.{TableShape}
use Rattle.ssb_cells.specs.Tables.{Columns}
use Rattle.ssb_load.specs.Files.{Bytes, FailsAt, loaded}
use Rattle.ssb_load.specs.declared.fault.FileFault.{FileFault}
use Rattle.ssb_rows.specs.Order.{Row}
use Rattle.ssb_reply.specs.Reply.{Replies}
use Rattle.ssb_reply.specs.declared.run_fault.RunFault.{RunFault}
use Rattle.ssb_answer.specs.Asking.{AnswersText}
use Rattle.ssb_answer.specs.Writing.{Writes}

-- a catalog, and the tables that were loaded by it
pub record Loaded : Type 0 where
  pub catalog : List TableShape
  pub tables : List Columns

-- what loading a catalog's tables answers of files whose bytes are known
abbrev pub LoadsTables : List TableShape → List Bytes → Result Loaded FileFault → Type 0
LoadsTables catalog files (Ok d) = (d.catalog ≡ catalog) × (loaded catalog files ≡ Ok d.tables)
LoadsTables catalog files (Err e) = FailsAt catalog files e.table e.fault

-- What is replied to a text over these tables: what it answers there, written. The bytes that the sink had taken before and after, and how often it had
-- failed.
pub record RepliesOver (c : List TableShape) (tables : List Columns) (text : Bytes) (r : Result (Unit {0}) RunFault) (old new : Bytes) (failures_old failures_new : ℕ) : Type 0 where
  pub answered : Result (List Row) RunFault
  pub answers : AnswersText c tables text answered
  pub writes : Writes answered r old new failures_old failures_new

-- the reply over the tables of files is the reply to the files
abbrev pub RepliesOfFiles : Type 0
RepliesOfFiles = (c : List TableShape) (files : List Bytes) (tables : List Columns) (text : Bytes) (r : Result (Unit {0}) RunFault) (old new : Bytes) (m n : ℕ)
    → loaded c files ≡ Ok tables → RepliesOver c tables text r old new m n → Replies c files text r old new
