-- Parts of a table that are put together in their order.
-- For the contracts inside this crate.
use Rattle.std.specs.Prelude.{◌≡◌, ◌+◌, ◌++◌, ◌≤◌, ◌<◌, ◌^◌, ◌∷◌, [], ℕ, Bool, true, false, List, length, map, None, ⊤}
use Rattle.std.specs.List.{flat_map}
use Rattle.ssb_cells.specs.Tables.{Filled}
use Rattle.ssb_records.specs.CutShort.{IsCutShort}
use Rattle.ssb_records.specs.Intake.{AreGood, Refuses}
use Rattle.ssb_load.specs.Subject.{RefusesRow, Subject, judge}
use Rattle.ssb_records.specs.Lines.{EndsInLf, IsPartOfLine}
use Rattle.ssb_records.specs.Records.{Fields, records_of}
use Rattle.ssb_terms.specs.Roles.{key_place}
use Rattle.ssb_load.specs.Rules.{columns_of}
use Rattle.ssb_load.specs.TableIntake.{IsLoading, subject_of}
use Rattle.ssb_load.specs.Tables.{first_fault}
use Rattle.ssb_lanes.specs.declared.assembly.Assembly.{Assembly}
use Rattle.ssb_records.specs.declared.fault.LoadFault.{LoadFault}
use Rattle.ssb_records.specs.declared.fault.LoadFault.TheVariants as load
use Rattle.ssb_terms.specs.declared.rule.Rule.{Rule}
use Rattle.ssb_load.specs.declared.table_intake.TableIntake.{TableIntake}

-- the records of all lists, one list after the other
abbrev pub all_in : List (List Fields) → List Fields
all_in lists = flat_map (λ rs. rs) lists

-- what an assembly is for
abbrev pub subject_in : Assembly → Subject
subject_in a = subject_of a.last

-- these lists of records are the parts that are done, and this one is on its way: all are good, and not too many
pub record IsHeld (a : Assembly) (lists : List (List Fields)) (latest : List Fields) : Type 0 where
  pub no_key : key_place a.last.rules.items ≡ None
  pub parts : map (λ v. v.items) a.done.items ≡ map (columns_of a.last.rules.items) lists
  pub earlier : a.earlier ≡ length (all_in lists)
  pub taken : IsLoading a.last latest
  pub few : a.earlier + a.last.accepted ≤ a.last.max_rows
  pub limit : a.last.max_rows < 2 ^ 32
  pub before : first_fault a.last.rules.items a.last.max_rows [] (all_in lists) ≡ None

-- whether a line feed has come yet
abbrev pub Begins : Bool → List ℕ → Type 0
Begins true lines = EndsInLf lines
Begins false lines = lines ≡ []

-- what stands before the bytes that wait: nothing at the beginning of all, and else the line feed that ended the line before
abbrev pub lead : Bool → List ℕ
lead true = 10 ∷ []
lead false = []

-- these bytes are whole lines whose records are held, and a part of a line that waits for its end
pub record IsAssembled (a : Assembly) (bytes : List ℕ) : Type 0 where
  pub lines : List ℕ
  pub lists : List (List Fields)
  pub latest : List Fields
  pub split : bytes ≡ lines ++ a.pending.items
  pub begins : Begins a.is_cut lines
  pub waits : IsPartOfLine a.pending.items
  pub records : records_of lines ≡ all_in lists ++ latest
  pub held : IsHeld a lists latest

-- the records of these bytes are held
pub record IsWhole (a : Assembly) (bytes : List ℕ) : Type 0 where
  pub lists : List (List Fields)
  pub latest : List Fields
  pub records : records_of bytes ≡ all_in lists ++ latest
  pub held : IsHeld a lists latest

-- the columns of each part, which together are these records, all good
pub record AreParts (rules : List Rule) (max_rows : ℕ) (parts : List (List Filled)) (records : List Fields) : Type 0 where
  pub lists : List (List Fields)
  pub split : records ≡ all_in lists
  pub columns : parts ≡ map (columns_of rules) lists
  pub clean : first_fault rules max_rows [] records ≡ None

-- behind the records that are held one of these is refused, whatever comes behind them
abbrev pub RefusesBehind : Assembly → List Fields → LoadFault → Type 0
RefusesBehind a more e = (lists : List (List Fields)) (latest rest : List Fields) → IsHeld a lists latest → Refuses (judge (subject_in a)) (all_in lists ++ (latest ++ (more ++ rest))) e

-- behind them one of a part's rows is refused, whatever comes behind these
abbrev pub RefusesRows : Assembly → TableIntake → LoadFault → Type 0
RefusesRows a rows e =
    (lists : List (List Fields)) (latest good rest : List Fields) → IsHeld a lists latest → IsLoading rows good → Refuses (judge (subject_in a)) (all_in lists ++ (latest ++ (good ++ rest))) e

-- a record of these bytes is refused, whatever comes behind them
abbrev pub RefusesAll : Subject → List ℕ → LoadFault → Type 0
RefusesAll s bytes e = (more : List ℕ) → Refuses (judge s) (records_of (bytes ++ more)) e

-- why not all records of these bytes were taken, whatever comes behind them
abbrev pub Halts : Subject → List ℕ → LoadFault → Type 0
Halts s bytes (load.Record f n) = (more : List ℕ) → RefusesRow s (records_of (bytes ++ more)) f n
Halts s bytes (load.BadCatalog f n) = ⊥
Halts s bytes (load.Read n) = IsCutShort (AreGood (judge s)) bytes n
Halts s bytes load.Memory = ⊤
