-- The fault of a run for that of a step: of loading, of reading, of binding, and of answering.
-- Source: own; the conversions between faults cite it.
use Rattle.std.specs.Prelude.{ℕ}
use Rattle.ssb_load.specs.declared.fault.FileFault.{FileFault}
use Rattle.ssb_records.specs.declared.fault.LoadFault.{LoadFault}
use Rattle.ssb_records.specs.declared.fault.LoadFault.TheVariants as load
use Rattle.ssb_sql.specs.declared.fault.SqlFault.{SqlFault}
use Rattle.ssb_sql.specs.declared.fault.SqlFault.TheVariants as sql
use Rattle.ssb_bind.specs.declared.fault.BindFault.{BindFault}
use Rattle.ssb_bind.specs.declared.fault.BindFault.TheVariants as bind
use Rattle.ssb_rows.specs.declared.fault.AnswerFault.{AnswerFault}
use Rattle.ssb_rows.specs.declared.fault.AnswerFault.TheVariants as answer
use Rattle.ssb_reply.specs.declared.run_fault.RunFault.{RunFault}
use Rattle.ssb_reply.specs.declared.run_fault.RunFault.TheVariants as run

abbrev pub told_at : ℕ → LoadFault → RunFault
told_at t (load.Record f n) = run.Load t (load.Record f n)
told_at t (load.BadCatalog f n) = run.Load t (load.BadCatalog f n)
told_at t (load.Read n) = run.Load t (load.Read n)
told_at t load.Memory = run.Memory

abbrev pub told_load : FileFault → RunFault
told_load e = told_at e.table e.fault

abbrev pub told_sql : SqlFault → RunFault
told_sql sql.TooLong = run.Sql sql.TooLong
told_sql sql.TooDeep = run.Sql sql.TooDeep
told_sql sql.Syntax = run.Sql sql.Syntax
told_sql sql.Memory = run.Memory

abbrev pub told_bind : BindFault → RunFault
told_bind (bind.UnknownTable n) = run.Bind (bind.UnknownTable n)
told_bind (bind.TableTwice n) = run.Bind (bind.TableTwice n)
told_bind (bind.UnknownColumn n) = run.Bind (bind.UnknownColumn n)
told_bind (bind.AmbiguousColumn n) = run.Bind (bind.AmbiguousColumn n)
told_bind bind.TypeMismatch = run.Bind bind.TypeMismatch
told_bind (bind.NotGrouped n) = run.Bind (bind.NotGrouped n)
told_bind (bind.BadOrderItem n) = run.Bind (bind.BadOrderItem n)
told_bind bind.NoFactTable = run.Bind bind.NoFactTable
told_bind (bind.NotStar n) = run.Bind (bind.NotStar n)
told_bind (bind.TooMany m) = run.Bind (bind.TooMany m)
told_bind bind.Memory = run.Memory

abbrev pub told_answer : AnswerFault → RunFault
told_answer (answer.RowOverflow n) = run.Answer (answer.RowOverflow n)
told_answer answer.SumOutOfRange = run.Answer answer.SumOutOfRange
told_answer answer.Memory = run.Memory
told_answer answer.Write = run.Answer answer.Write
