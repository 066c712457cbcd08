-- What is written of what a text answers.
-- For the contracts of what writes it.
use Rattle.std.specs.Prelude.{◌≡◌, ◌++◌, ◌<◌, ℕ, List, Result, Ok, Err}
use Rattle.ssb_load.specs.Files.{Bytes}
use Rattle.ssb_rows.specs.Order.{Row}
use Rattle.ssb_rows.specs.Taking.{IsBeginning}
use Rattle.ssb_rows.specs.Text.{text_of}
use Rattle.ssb_rows.specs.declared.fault.AnswerFault.TheVariants as answer
use Rattle.ssb_reply.specs.declared.run_fault.RunFault.{RunFault}
use Rattle.ssb_reply.specs.declared.run_fault.RunFault.TheVariants as run

-- A fault is passed on and nothing is written; rows are written whole, unless the sink fails, and then a beginning of them. The bytes that the sink had taken
-- before and after, and how often it had failed.
abbrev pub Writes : Result (List Row) RunFault → Result (Unit {0}) RunFault → Bytes → Bytes → ℕ → ℕ → Type 0
Writes (Err f) r old new failed_old failed_new = (r ≡ Err f) × (new ≡ old) × (failed_new ≡ failed_old)
Writes (Ok rows) (Ok u) old new failed_old failed_new = (new ≡ old ++ text_of rows) × (failed_new ≡ failed_old)
Writes (Ok rows) (Err f) old new failed_old failed_new = (f ≡ run.Answer answer.Write) × (IsBeginning old new (text_of rows) × (failed_old < failed_new))
