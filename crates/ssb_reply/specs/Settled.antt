-- That files and a text have one reply.
-- Source: own.
use Rattle.std.specs.Prelude.{◌≡◌, List, OnOk, Result, Ok, Err, ⊤}
use Rattle.ssb_catalog.specs.Shapes.{TableShape}
use Rattle.ssb_records.specs.declared.fault.LoadFault.TheVariants as load
use Rattle.ssb_sql.specs.declared.fault.SqlFault.TheVariants as sql
use Rattle.ssb_load.specs.Files.{Bytes}
use Rattle.ssb_reply.specs.Reply.{Replies}
use Rattle.ssb_rows.specs.declared.fault.AnswerFault.TheVariants as answer
use Rattle.ssb_reply.specs.declared.run_fault.RunFault.{RunFault}
use Rattle.ssb_reply.specs.declared.run_fault.RunFault.TheVariants as run

-- no growth was refused, and no read and no write failed
abbrev pub IsSettled : Result (Unit {0}) RunFault → Type 0
IsSettled (Ok u) = ⊤
IsSettled (Err (run.Load t (load.Record f n))) = ⊤
IsSettled (Err (run.Load t (load.BadCatalog f n))) = ⊤
IsSettled (Err (run.Load t (load.Read n))) = ⊥
IsSettled (Err (run.Load t load.Memory)) = ⊥
IsSettled (Err (run.Sql sql.TooLong)) = ⊤
IsSettled (Err (run.Sql sql.TooDeep)) = ⊤
IsSettled (Err (run.Sql sql.Syntax)) = ⊤
IsSettled (Err (run.Sql sql.Memory)) = ⊥
IsSettled (Err (run.Bind f)) = ⊤
IsSettled (Err (run.Answer (answer.RowOverflow n))) = ⊤
IsSettled (Err (run.Answer answer.SumOutOfRange)) = ⊤
IsSettled (Err (run.Answer answer.Memory)) = ⊥
IsSettled (Err (run.Answer answer.Write)) = ⊥
IsSettled (Err run.Memory) = ⊥

-- of what replies are, with the bytes before and after: two settled ones are one, and an answer is written with the same bytes
abbrev pub HasOne : (Result (Unit {0}) RunFault → Bytes → Bytes → Type 0) → Type 0
HasOne IsReply = (one other : Result (Unit {0}) RunFault) (old new other_new : Bytes) → IsSettled one → IsSettled other
    → IsReply one old new → IsReply other old other_new → (one ≡ other) × OnOk one (new ≡ other_new)

-- the same files and text have one settled reply
abbrev pub OneReply : Type 0
OneReply = (c : List TableShape) (files : List Bytes) (text : Bytes) → HasOne (Replies c files text)
