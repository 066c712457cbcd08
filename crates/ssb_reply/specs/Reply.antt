-- What a run replies to a query over the files of a catalog's tables: it loads, reads, binds and answers, and the first fault ends it.
-- Source: own; the order is that of the work.
use Rattle.std.specs.Prelude.{◌≡◌, ◌++◌, ℕ, List, map, Some, Result, Ok, Err, ⊤}
use Rattle.ssb_load.specs.Files.{Bytes, loaded}
use Rattle.ssb_cells.specs.Tables.{Columns}
use Rattle.ssb_catalog.specs.Shapes.{TableShape}
use Rattle.ssb_records.specs.declared.fault.LoadFault.TheVariants as load
use Rattle.ssb_sql.specs.Spells.{IsRead, ReadsText}
use Rattle.ssb_sql.specs.declared.fault.SqlFault.TheVariants as sql
use Rattle.ssb_sql.specs.declared.select.Select.{Select}
use Rattle.ssb_bind.specs.Faults.{least_fault}
use Rattle.ssb_bind.specs.Meaning.{Means}
use Rattle.ssb_bind.specs.declared.fault.BindFault.{BindFault}
use Rattle.ssb_query.specs.declared.query.QueryParts.{QueryParts}
use Rattle.ssb_plan.specs.JobShape.{JobShape}
use Rattle.ssb_job.specs.Kept.{kept}
use Rattle.ssb_groups.specs.Rows.{SeenRow}
use Rattle.ssb_groups.specs.Seen.{seen}
use Rattle.ssb_rows.specs.Order.{Row}
use Rattle.ssb_rows.specs.Result.{Answers}
use Rattle.ssb_rows.specs.Taking.{IsBeginning}
use Rattle.ssb_rows.specs.Text.{text_of}
use Rattle.ssb_rows.specs.declared.fault.AnswerFault.{AnswerFault}
use Rattle.ssb_rows.specs.declared.fault.AnswerFault.TheVariants as answer
use Rattle.ssb_reply.specs.declared.run_fault.RunFault.{RunFault}
use Rattle.ssb_reply.specs.declared.run_fault.RunFault.TheVariants as run

-- the rows that WHERE keeps, as the aggregates see them
abbrev pub seen_rows : JobShape → List SeenRow
seen_rows j = map (seen j) (kept j)

-- the text is a query, and that means this over the catalog
pub record Asks (c : List TableShape) (text : Bytes) (q : QueryParts) : Type 0 where
  pub select : Select
  pub reads : IsRead text select
  pub means : Means c select q

-- the text is a query, and that means nothing over the catalog
pub record IsUnbound (c : List TableShape) (text : Bytes) (f : BindFault) : Type 0 where
  pub select : Select
  pub reads : IsRead text select
  pub least : least_fault c select ≡ Some f

-- the files are tables, and this is what their query answers
pub record Answered (c : List TableShape) (files : List Bytes) (text : Bytes) (r : Result (List Row) AnswerFault) : Type 0 where
  pub tables : List Columns
  pub query : QueryParts
  pub loads : loaded c files ≡ Ok tables
  pub asks : Asks c text query
  pub answers : Answers query (seen_rows (record { query = query; tables = tables })) r

-- the files are tables
abbrev pub AreTables : List TableShape → List Bytes → Type 0
AreTables c files = (tables : List Columns) × (loaded c files ≡ Ok tables)

-- What was answered and written is the reply, or the first fault in the order load, read, bind, answer. Only a failed read, a failed write and memory may
-- come in place of it; a failed write leaves a beginning of it.
abbrev pub Replies : List TableShape → List Bytes → Bytes → Result (Unit {0}) RunFault → Bytes → Bytes → Type 0
Replies c files text (Ok u) old new = (rows : List Row) × Answered c files text (Ok rows) × (new ≡ old ++ text_of rows)
Replies c files text (Err (run.Load t (load.Record f n))) old new = loaded c files ≡ Err (t, f, n)
Replies c files text (Err (run.Load t (load.BadCatalog f n))) old new = ⊥
Replies c files text (Err (run.Load t (load.Read n))) old new = ⊤
Replies c files text (Err (run.Load t load.Memory)) old new = ⊥
Replies c files text (Err (run.Sql sql.TooLong)) old new = AreTables c files × ReadsText text (Err sql.TooLong)
Replies c files text (Err (run.Sql sql.TooDeep)) old new = AreTables c files × ReadsText text (Err sql.TooDeep)
Replies c files text (Err (run.Sql sql.Syntax)) old new = AreTables c files × ReadsText text (Err sql.Syntax)
Replies c files text (Err (run.Sql sql.Memory)) old new = ⊥
Replies c files text (Err (run.Bind f)) old new = AreTables c files × IsUnbound c text f
Replies c files text (Err (run.Answer (answer.RowOverflow n))) old new = Answered c files text (Err (answer.RowOverflow n))
Replies c files text (Err (run.Answer answer.SumOutOfRange)) old new = Answered c files text (Err answer.SumOutOfRange)
Replies c files text (Err (run.Answer answer.Memory)) old new = ⊥
Replies c files text (Err (run.Answer answer.Write)) old new = (rows : List Row) × Answered c files text (Ok rows) × IsBeginning old new (text_of rows)
Replies c files text (Err run.Memory) old new = ⊤

-- a fault of the writer came because a write failed; with any other, nothing was written
abbrev pub IsSilentBut : Type 0 → Type 0 → RunFault → Type 0
IsSilentBut failed silent (run.Answer answer.Write) = failed
IsSilentBut failed silent (run.Answer (answer.RowOverflow n)) = silent
IsSilentBut failed silent (run.Answer answer.SumOutOfRange) = silent
IsSilentBut failed silent (run.Answer answer.Memory) = silent
IsSilentBut failed silent (run.Load t f) = silent
IsSilentBut failed silent (run.Sql e) = silent
IsSilentBut failed silent (run.Bind e) = silent
IsSilentBut failed silent run.Memory = silent

-- what holds where all tables were loaded: an answer, and the faults of text, binding and answer, come only then
abbrev pub IfLoaded : Result (Unit {0}) RunFault → Type 0 → Type 0
IfLoaded (Ok u) P = P
IfLoaded (Err (run.Load t f)) P = ⊤
IfLoaded (Err (run.Sql e)) P = P
IfLoaded (Err (run.Bind e)) P = P
IfLoaded (Err (run.Answer e)) P = P
IfLoaded (Err run.Memory) P = ⊤

-- what holds of a read that failed: the number of its table, and of the record on its way
abbrev pub IfReadOf : RunFault → (ℕ → ℕ → Type 0) → Type 0
IfReadOf (run.Load t (load.Record f n)) P = ⊤
IfReadOf (run.Load t (load.BadCatalog f n)) P = ⊤
IfReadOf (run.Load t (load.Read n)) P = P t n
IfReadOf (run.Load t load.Memory) P = ⊤
IfReadOf (run.Sql e) P = ⊤
IfReadOf (run.Bind e) P = ⊤
IfReadOf (run.Answer e) P = ⊤
IfReadOf run.Memory P = ⊤

-- a fault of the files, of the text or of the data, or memory: no failed read or write
abbrev pub IsOfContent : RunFault → Type 0
IsOfContent (run.Load t (load.Record f n)) = ⊤
IsOfContent (run.Load t (load.BadCatalog f n)) = ⊥
IsOfContent (run.Load t (load.Read n)) = ⊥
IsOfContent (run.Load t load.Memory) = ⊥
IsOfContent (run.Sql e) = ⊤
IsOfContent (run.Bind e) = ⊤
IsOfContent (run.Answer (answer.RowOverflow n)) = ⊤
IsOfContent (run.Answer answer.SumOutOfRange) = ⊤
IsOfContent (run.Answer answer.Memory) = ⊥
IsOfContent (run.Answer answer.Write) = ⊥
IsOfContent run.Memory = ⊤
