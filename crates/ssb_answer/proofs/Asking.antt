-- From a text to what is answered.
use Rattle.std.proofs.Common.{◌≡◌, ◌<◌, List, length, Result, Ok, Err, subst}
use Rattle.std.proofs.lemmas.List.Quantifiers.{position-Some}
use Rattle.ssb_catalog.specs.Catalog.{IsCatalog}
use Rattle.ssb_catalog.specs.Shapes.{TableShape}
use Rattle.ssb_sql.specs.declared.fault.SqlFault.TheVariants as sql
use Rattle.ssb_query.specs.Star.{IsStar}
use Rattle.ssb_query.specs.declared.query.QueryParts.{QueryParts}
use Rattle.ssb_cells.specs.Tables.{Columns}
use Rattle.ssb_plan.specs.JobShape.{JobShape}
use Rattle.ssb_load.specs.Files.{AreLawful, Bytes}
use Rattle.ssb_plan.specs.Loaded.{AreLoaded}
use Rattle.ssb_reply.proofs.Loading.{query_loaded}
use Rattle.ssb_answer.specs.Asking.{Asked, AnswersText}
use Rattle.ssb_reply.specs.Told.{told_answer}
use Rattle.ssb_rows.specs.Order.{Row}
use Rattle.ssb_reply.specs.Reply.{Asks, seen_rows}
use Rattle.ssb_rows.specs.Result.{Answers}
use Rattle.ssb_rows.specs.declared.fault.AnswerFault.{AnswerFault}
use Rattle.ssb_rows.specs.declared.fault.AnswerFault.TheVariants as answer
use Rattle.ssb_reply.specs.declared.run_fault.RunFault.{RunFault}
use Rattle.ssb_reply.specs.declared.run_fault.RunFault.TheVariants as run

pub fact_below : (q : QueryParts) → IsStar q → q.fact < length q.from
fact_below q s = (position-Some _ q.from q.fact 0 s.fact).0

pub fits : (c : List TableShape) (text : Bytes) (tables : List Columns) (q : QueryParts) → IsCatalog c → AreLawful c tables → Asks c text q → AreLoaded q.tables tables
fits c text tables q k l a = query_loaded c tables a.select q k l a.means

pub unasked : (c : List TableShape) (text : Bytes) (tables : List Columns) (f : RunFault) → Asked c text (Err f) → AnswersText c tables text (Err f)
unasked c text tables (run.Load t f) h = absurd h
unasked c text tables (run.Sql sql.TooLong) h = h
unasked c text tables (run.Sql sql.TooDeep) h = h
unasked c text tables (run.Sql sql.Syntax) h = h
unasked c text tables (run.Sql sql.Memory) h = absurd h
unasked c text tables (run.Bind f) h = h
unasked c text tables (run.Answer f) h = absurd h
unasked c text tables run.Memory h = tt

pub over : (tables : List Columns) (j : JobShape) (r : Result (List Row) AnswerFault) → j.tables ≡ tables → Answers j.query (seen_rows j) r → Answers j.query (seen_rows (record { query = j.query; tables = tables })) r
over tables j r t h = subst (λ ts. Answers j.query (seen_rows (record { query = j.query; tables = ts })) r) t h

pub answered : (c : List TableShape) (text : Bytes) (tables : List Columns) (j : JobShape) (rows : List Row) → Asks c text j.query → j.tables ≡ tables → Answers j.query (seen_rows j) (Ok rows) → AnswersText c tables text (Ok rows)
answered c text tables j rows a t h = record { query = j.query; asks = a; answers = over tables j (Ok rows) t h }

pub refused : (c : List TableShape) (text : Bytes) (tables : List Columns) (j : JobShape) (f : AnswerFault) (told : RunFault) → Asks c text j.query → j.tables ≡ tables → Answers j.query (seen_rows j) (Err f) → told ≡ told_answer f → AnswersText c tables text (Err told)
refused c text tables j (answer.RowOverflow n) told a t h is = rw is (record { query = j.query; asks = a; answers = over tables j (Err (answer.RowOverflow n)) t h })
refused c text tables j answer.SumOutOfRange told a t h is = rw is (record { query = j.query; asks = a; answers = over tables j (Err answer.SumOutOfRange) t h })
refused c text tables j answer.Memory told a t h is = rw is tt
refused c text tables j answer.Write told a t h is = absurd h
