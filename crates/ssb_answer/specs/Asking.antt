-- What reading and binding a text answers, and answering its query.
-- For the contracts of what answers a text.
use Rattle.std.specs.Prelude.{List, Result, Ok, Err, ⊤}
use Rattle.ssb_catalog.specs.Shapes.{TableShape}
use Rattle.ssb_sql.specs.Spells.{ReadsText}
use Rattle.ssb_sql.specs.declared.fault.SqlFault.TheVariants as sql
use Rattle.ssb_query.specs.declared.query.QueryParts.{QueryParts}
use Rattle.ssb_load.specs.Files.{Bytes}
use Rattle.ssb_cells.specs.Tables.{Columns}
use Rattle.ssb_rows.specs.Order.{Row}
use Rattle.ssb_reply.specs.Reply.{Asks, IsUnbound, seen_rows}
use Rattle.ssb_rows.specs.Result.{Answers}
use Rattle.ssb_rows.specs.declared.fault.AnswerFault.{AnswerFault}
use Rattle.ssb_rows.specs.declared.fault.AnswerFault.TheVariants as answer
use Rattle.ssb_reply.specs.declared.run_fault.RunFault.{RunFault}
use Rattle.ssb_reply.specs.declared.run_fault.RunFault.TheVariants as run

-- the query of a text
abbrev pub Asked : List TableShape → Bytes → Result QueryParts RunFault → Type 0
Asked c text (Ok q) = Asks c text q
Asked c text (Err (run.Load t f)) = ⊥
Asked c text (Err (run.Sql sql.TooLong)) = ReadsText text (Err sql.TooLong)
Asked c text (Err (run.Sql sql.TooDeep)) = ReadsText text (Err sql.TooDeep)
Asked c text (Err (run.Sql sql.Syntax)) = ReadsText text (Err sql.Syntax)
Asked c text (Err (run.Sql sql.Memory)) = ⊥
Asked c text (Err (run.Bind f)) = IsUnbound c text f
Asked c text (Err (run.Answer f)) = ⊥
Asked c text (Err run.Memory) = ⊤

-- a text's query over these tables, and what it answers
pub record IsAnswered (c : List TableShape) (tables : List Columns) (text : Bytes) (r : Result (List Row) AnswerFault) : Type 0 where
  pub query : QueryParts
  pub asks : Asks c text query
  pub answers : Answers query (seen_rows (record { query = query; tables = tables })) r

abbrev pub AnswersText : List TableShape → List Columns → Bytes → Result (List Row) RunFault → Type 0
AnswersText c tables text (Ok rows) = IsAnswered c tables text (Ok rows)
AnswersText c tables text (Err (run.Load t f)) = ⊥
AnswersText c tables text (Err (run.Sql sql.TooLong)) = ReadsText text (Err sql.TooLong)
AnswersText c tables text (Err (run.Sql sql.TooDeep)) = ReadsText text (Err sql.TooDeep)
AnswersText c tables text (Err (run.Sql sql.Syntax)) = ReadsText text (Err sql.Syntax)
AnswersText c tables text (Err (run.Sql sql.Memory)) = ⊥
AnswersText c tables text (Err (run.Bind f)) = IsUnbound c text f
AnswersText c tables text (Err (run.Answer (answer.RowOverflow n))) = IsAnswered c tables text (Err (answer.RowOverflow n))
AnswersText c tables text (Err (run.Answer answer.SumOutOfRange)) = IsAnswered c tables text (Err answer.SumOutOfRange)
AnswersText c tables text (Err (run.Answer answer.Memory)) = ⊥
AnswersText c tables text (Err (run.Answer answer.Write)) = ⊥
AnswersText c tables text (Err run.Memory) = ⊤
