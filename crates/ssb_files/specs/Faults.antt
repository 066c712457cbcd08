-- The line that the program tells a fault by, and the status that it ends with.
-- Source: own.
use Rattle.std.specs.Prelude.{◌≡◌, ◌⊎◌, ◌∷◌, [], ℕ, List, codes, map, slice_get, unwrap_or, ⊤, String, string_bytes}
use Rattle.std.specs.declared.alloc.Global.{Global}
use Rattle.ssb_catalog.specs.CatalogReading.{IsCatalogFault}
use Rattle.ssb_records.specs.declared.fault.LoadFault.{LoadFault}
use Rattle.ssb_records.specs.declared.fault.LoadFault.TheVariants as load
use Rattle.ssb_sql.specs.declared.fault.SqlFault.{SqlFault}
use Rattle.ssb_sql.specs.declared.fault.SqlFault.TheVariants as sql
use Rattle.ssb_bind.specs.declared.fault.BindFault.{BindFault}
use Rattle.ssb_bind.specs.declared.fault.BindFault.TheVariants as bind
use Rattle.ssb_rows.specs.declared.fault.AnswerFault.{AnswerFault}
use Rattle.ssb_rows.specs.declared.fault.AnswerFault.TheVariants as answer
use Rattle.ssb_reply.specs.FaultLine.{load_words, memory_words, run_words}
use Rattle.ssb_reply.specs.declared.run_fault.RunFault.{RunFault}
use Rattle.ssb_reply.specs.declared.run_fault.RunFault.TheVariants as run
use Rattle.ssb_files.specs.Shown.{shown_path}
use Rattle.ssb_files.specs.declared.fault.ProgramFault.{ProgramFault}
use Rattle.ssb_files.specs.declared.fault.ProgramFault.TheVariants as program

-- 1: the files, the query or the data are at fault
abbrev pub at_fault : ℕ
at_fault = 1

-- 2: the words of the command line, or a command, are refused
abbrev pub bad_words : ℕ
bad_words = 2

-- 3: memory ran out
abbrev pub out_of_memory : ℕ
out_of_memory = 3

-- 4: reading or writing failed
abbrev pub input_or_output : ℕ
input_or_output = 4

abbrev pub load_status : LoadFault → ℕ
load_status (load.Record fault record_number) = at_fault
load_status (load.BadCatalog reason record_number) = at_fault
load_status (load.Read record_number) = input_or_output
load_status load.Memory = out_of_memory

abbrev pub sql_status : SqlFault → ℕ
sql_status sql.Syntax = at_fault
sql_status sql.TooDeep = at_fault
sql_status sql.TooLong = at_fault
sql_status sql.Memory = out_of_memory

abbrev pub bind_status : BindFault → ℕ
bind_status (bind.UnknownTable name) = at_fault
bind_status (bind.TableTwice name) = at_fault
bind_status (bind.UnknownColumn name) = at_fault
bind_status (bind.AmbiguousColumn name) = at_fault
bind_status bind.TypeMismatch = at_fault
bind_status (bind.NotGrouped name) = at_fault
bind_status (bind.BadOrderItem key) = at_fault
bind_status bind.NoFactTable = at_fault
bind_status (bind.NotStar name) = at_fault
bind_status (bind.TooMany what) = at_fault
bind_status bind.Memory = out_of_memory

abbrev pub answer_status : AnswerFault → ℕ
answer_status (answer.RowOverflow fact_row) = at_fault
answer_status answer.SumOutOfRange = at_fault
answer_status answer.Memory = out_of_memory
answer_status answer.Write = input_or_output

-- the exit status of a run's fault
abbrev pub status : RunFault → ℕ
status (run.Load table fault) = load_status fault
status (run.Sql fault) = sql_status fault
status (run.Bind fault) = bind_status fault
status (run.Answer fault) = answer_status fault
status run.Memory = out_of_memory

-- the exit status of the program's fault
abbrev pub program_status : ProgramFault → ℕ
program_status program.BadWords = bad_words
program_status (program.BadCommand word) = bad_words
program_status (program.CannotOpen path) = input_or_output
program_status (program.Catalog fault) = load_status fault
program_status (program.Run names fault) = status fault
program_status program.Memory = out_of_memory

-- the name that the fault of a run tells: that of its table, and no name where there is none of its number
abbrev pub name_told : List (String Global) → RunFault → List ℕ
name_told names (run.Load table fault) = unwrap_or (slice_get (map string_bytes names) table) []
name_told names (run.Sql fault) = []
name_told names (run.Bind fault) = []
name_told names (run.Answer fault) = []
name_told names run.Memory = []

-- the words of the program's fault
abbrev pub program_words : ProgramFault → List (List ℕ)
program_words program.BadWords = codes "U1 BadWords" ∷ []
program_words (program.BadCommand word) = codes "U2 BadCommand" ∷ shown_path (string_bytes word) ∷ []
program_words (program.CannotOpen path) = codes "F1 CannotOpen" ∷ shown_path (string_bytes path) ∷ []
program_words (program.Catalog fault) = load_words (codes "catalog") fault
program_words (program.Run names fault) = run_words (name_told names.items fault) fault
program_words program.Memory = memory_words

-- an exit status of the program is 0, or that of a fault
abbrev pub IsStatus : ℕ → Type 0
IsStatus s = (s ≡ 0) ⊎ ((fault : ProgramFault) × (s ≡ program_status fault))

-- a file can't be opened, or memory ran out
abbrev pub IsOpenFault : ProgramFault → Type 0
IsOpenFault program.BadWords = ⊥
IsOpenFault (program.BadCommand word) = ⊥
IsOpenFault (program.CannotOpen path) = ⊤
IsOpenFault (program.Catalog fault) = ⊥
IsOpenFault (program.Run names fault) = ⊥
IsOpenFault program.Memory = ⊤

-- a catalog's file can't be opened, or is no catalog, or memory ran out
abbrev pub IsNoCatalog : ProgramFault → Type 0
IsNoCatalog program.BadWords = ⊥
IsNoCatalog (program.BadCommand word) = ⊥
IsNoCatalog (program.CannotOpen path) = ⊤
IsNoCatalog (program.Catalog fault) = IsCatalogFault fault
IsNoCatalog (program.Run names fault) = ⊥
IsNoCatalog program.Memory = ⊤

-- a run had this fault of its query
abbrev pub IsQueryFault : SqlFault → ProgramFault → Type 0
IsQueryFault expected program.BadWords = ⊥
IsQueryFault expected (program.BadCommand word) = ⊥
IsQueryFault expected (program.CannotOpen path) = ⊥
IsQueryFault expected (program.Catalog fault) = ⊥
IsQueryFault expected (program.Run names fault) = fault ≡ run.Sql expected
IsQueryFault expected program.Memory = ⊥

-- a query's file can't be opened or read, or its bytes are no text of a query, or memory ran out
abbrev pub IsNoQuery : ProgramFault → Type 0
IsNoQuery fault = IsOpenFault fault ⊎ (IsQueryFault sql.TooLong fault ⊎ IsQueryFault sql.Syntax fault)
