-- The line that tells of a fault.
-- Source: own; docs/FAULTS.md lists the lines.
use Rattle.std.specs.Prelude.{◌++◌, ◌∷◌, [], ℕ, List, codes, decimal}
use Rattle.ssb_records.specs.Titles.{reason_number, record_title}
use Rattle.ssb_records.specs.declared.fault.LoadFault.{LoadFault}
use Rattle.ssb_records.specs.declared.fault.LoadFault.TheVariants as load
use Rattle.ssb_sql.specs.Titles.{sql_title}
use Rattle.ssb_sql.specs.declared.fault.SqlFault.{SqlFault}
use Rattle.ssb_sql.specs.declared.fault.SqlFault.TheVariants as sql
use Rattle.ssb_bind.specs.Titles.{bind_title, many_word}
use Rattle.ssb_bind.specs.declared.fault.BindFault.{BindFault}
use Rattle.ssb_bind.specs.declared.fault.BindFault.TheVariants as bind
use Rattle.ssb_rows.specs.Titles.{answer_title}
use Rattle.ssb_rows.specs.declared.fault.AnswerFault.{AnswerFault}
use Rattle.ssb_rows.specs.declared.fault.AnswerFault.TheVariants as answer
use Rattle.ssb_reply.specs.declared.run_fault.RunFault.{RunFault}
use Rattle.ssb_reply.specs.declared.run_fault.RunFault.TheVariants as run

-- each word behind a space, and a line feed behind the last
abbrev pub spaced : List (List ℕ) → List ℕ
spaced [] = codes "\n"
spaced (word ∷ words) = codes " " ++ word ++ spaced words

-- the line of these words
abbrev pub line_of : List (List ℕ) → List ℕ
line_of words = codes "ssb:" ++ spaced words

-- the words where memory ran out
abbrev pub memory_words : List (List ℕ)
memory_words = codes "Memory" ∷ []

-- the words of a fault of the table of this name
abbrev pub load_words : List ℕ → LoadFault → List (List ℕ)
load_words name (load.Record fault record_number) = record_title fault ∷ name ∷ decimal record_number ∷ []
load_words name (load.BadCatalog reason record_number) = codes "L8 BadCatalog" ∷ reason_number reason ∷ decimal record_number ∷ []
load_words name (load.Read record_number) = codes "L9 Read" ∷ name ∷ decimal record_number ∷ []
load_words name load.Memory = memory_words

abbrev pub sql_words : SqlFault → List (List ℕ)
sql_words sql.Syntax = sql_title sql.Syntax ∷ []
sql_words sql.TooDeep = sql_title sql.TooDeep ∷ []
sql_words sql.TooLong = sql_title sql.TooLong ∷ []
sql_words sql.Memory = memory_words

abbrev pub bind_words : BindFault → List (List ℕ)
bind_words (bind.UnknownTable name) = bind_title (bind.UnknownTable name) ∷ name ∷ []
bind_words (bind.TableTwice name) = bind_title (bind.TableTwice name) ∷ name ∷ []
bind_words (bind.UnknownColumn name) = bind_title (bind.UnknownColumn name) ∷ name ∷ []
bind_words (bind.AmbiguousColumn name) = bind_title (bind.AmbiguousColumn name) ∷ name ∷ []
bind_words bind.TypeMismatch = bind_title bind.TypeMismatch ∷ []
bind_words (bind.NotGrouped name) = bind_title (bind.NotGrouped name) ∷ name ∷ []
bind_words (bind.BadOrderItem key) = bind_title (bind.BadOrderItem key) ∷ decimal key ∷ []
bind_words bind.NoFactTable = bind_title bind.NoFactTable ∷ []
bind_words (bind.NotStar name) = bind_title (bind.NotStar name) ∷ name ∷ []
bind_words (bind.TooMany what) = bind_title (bind.TooMany what) ∷ many_word what ∷ []
bind_words bind.Memory = memory_words

abbrev pub answer_words : AnswerFault → List (List ℕ)
answer_words (answer.RowOverflow row) = answer_title (answer.RowOverflow row) ∷ decimal row ∷ []
answer_words answer.SumOutOfRange = answer_title answer.SumOutOfRange ∷ []
answer_words answer.Memory = memory_words
answer_words answer.Write = answer_title answer.Write ∷ []

-- the words of a run's fault, with the name of the table that it tells of by its number
abbrev pub run_words : List ℕ → RunFault → List (List ℕ)
run_words name (run.Load table fault) = load_words name fault
run_words name (run.Sql fault) = sql_words fault
run_words name (run.Bind fault) = bind_words fault
run_words name (run.Answer fault) = answer_words fault
run_words name run.Memory = memory_words
