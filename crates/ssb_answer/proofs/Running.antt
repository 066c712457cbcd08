-- A run over sources, by where it ends: tables that are not loaded, a text that is not answered, an answer that is not written, and one that is.
use Rattle.std.proofs.Common.{◌≡◌, ◌++◌, ◌<◌, ℕ, List, Option, Some, Result, Ok, Err, IfErr, map, refl}
use Rattle.ssb_catalog.specs.Shapes.{TableShape}
use Rattle.ssb_records.specs.CutShort.{IfRead}
use Rattle.ssb_records.specs.declared.fault.LoadFault.{LoadFault}
use Rattle.ssb_records.specs.declared.fault.LoadFault.TheVariants as load
use Rattle.ssb_load.specs.Files.{Bytes, FailedAt, FailsAt, GrewEach, RoseEach, given_each, loaded}
use Rattle.ssb_cells.specs.Tables.{Columns}
use Rattle.ssb_sql.specs.declared.fault.SqlFault.TheVariants as sql
use Rattle.ssb_rows.specs.Order.{Row}
use Rattle.ssb_rows.proofs.Written.{grew-none}
use Rattle.ssb_rows.specs.Taking.{GrewAlike, IsBeginning}
use Rattle.ssb_rows.specs.Text.{text_of}
use Rattle.ssb_rows.specs.declared.fault.AnswerFault.{AnswerFault}
use Rattle.ssb_rows.specs.declared.fault.AnswerFault.TheVariants as answer
use Rattle.ssb_reply.specs.Reply.{Answered, IfLoaded, IfReadOf, IsSilentBut, Replies}
use Rattle.ssb_reply.specs.Running.{LeavesSink, RunsFrom}
use Rattle.ssb_reply.specs.Told.{told_at}
use Rattle.ssb_reply.specs.declared.run_fault.RunFault.{RunFault}
use Rattle.ssb_reply.specs.declared.run_fault.RunFault.TheVariants as run
use Rattle.ssb_answer.specs.Asking.{AnswersText, IsAnswered}
use Rattle.ssb_answer.specs.Writing.{Writes}

-- ---- what is replied

unloaded : (c : List TableShape) (files : List Bytes) (text : Bytes) (t : ℕ) (f : LoadFault) (old : Bytes) → FailsAt c files t f → Replies c files text (Err (told_at t f)) old old
unloaded c files text t (load.Record f n) old h = h
unloaded c files text t (load.BadCatalog f n) old h = absurd h
unloaded c files text t (load.Read n) old h = tt
unloaded c files text t load.Memory old h = tt

answered_over : (c : List TableShape) (files : List Bytes) (text : Bytes) (ts : List Columns) (r : Result (List Row) AnswerFault) → loaded c files ≡ Ok ts → IsAnswered c ts text r → Answered c files text r
answered_over c files text ts r loads a = record { tables = ts; query = a.query; loads = loads; asks = a.asks; answers = a.answers }

unanswered : (c : List TableShape) (files : List Bytes) (text : Bytes) (ts : List Columns) (f : RunFault) (old : Bytes) → loaded c files ≡ Ok ts → AnswersText c ts text (Err f) → Replies c files text (Err f) old old
unanswered c files text ts (run.Load t f) old loads h = absurd h
unanswered c files text ts (run.Sql sql.TooLong) old loads h = ((ts, loads), h)
unanswered c files text ts (run.Sql sql.TooDeep) old loads h = ((ts, loads), h)
unanswered c files text ts (run.Sql sql.Syntax) old loads h = ((ts, loads), h)
unanswered c files text ts (run.Sql sql.Memory) old loads h = absurd h
unanswered c files text ts (run.Bind f) old loads h = ((ts, loads), h)
unanswered c files text ts (run.Answer (answer.RowOverflow n)) old loads h = answered_over c files text ts (Err (answer.RowOverflow n)) loads h
unanswered c files text ts (run.Answer answer.SumOutOfRange) old loads h = answered_over c files text ts (Err answer.SumOutOfRange) loads h
unanswered c files text ts (run.Answer answer.Memory) old loads h = absurd h
unanswered c files text ts (run.Answer answer.Write) old loads h = absurd h
unanswered c files text ts run.Memory old loads h = tt

-- ---- which reads failed

read_at : (P : ℕ → ℕ → Type 0) (t : ℕ) (f : LoadFault) → IfRead f (P t) → IfReadOf (told_at t f) P
read_at P t (load.Record f n) h = tt
read_at P t (load.BadCatalog f n) h = tt
read_at P t (load.Read n) h = h
read_at P t load.Memory h = tt

no_read : (P : ℕ → ℕ → Type 0) (c : List TableShape) (text : Bytes) (ts : List Columns) (f : RunFault) → AnswersText c ts text (Err f) → IfReadOf f P
no_read P c text ts (run.Load t f) h = absurd h
no_read P c text ts (run.Sql e) h = tt
no_read P c text ts (run.Bind e) h = tt
no_read P c text ts (run.Answer e) h = tt
no_read P c text ts run.Memory h = tt

none_loaded : (P : Type 0) (t : ℕ) (f : LoadFault) → IfLoaded (Err (told_at t f)) P
none_loaded P t (load.Record f n) = tt
none_loaded P t (load.BadCatalog f n) = tt
none_loaded P t (load.Read n) = tt
none_loaded P t load.Memory = tt

all_loaded : (P : Type 0) (f : RunFault) → P → IfLoaded (Err f) P
all_loaded P (run.Load t f) p = tt
all_loaded P (run.Sql e) p = p
all_loaded P (run.Bind e) p = p
all_loaded P (run.Answer e) p = p
all_loaded P run.Memory p = tt

-- ---- how the sink is left

-- a fault of what comes before the writing: nothing was written
abbrev IsBefore : RunFault → Type 1
IsBefore f = (P Q : Type 0) → Q → IsSilentBut P Q f

before_load : (t : ℕ) (f : LoadFault) → IsBefore (told_at t f)
before_load t (load.Record f n) P Q q = q
before_load t (load.BadCatalog f n) P Q q = q
before_load t (load.Read n) P Q q = q
before_load t load.Memory P Q q = q

pub before_answer : (c : List TableShape) (ts : List Columns) (text : Bytes) (f : RunFault) → AnswersText c ts text (Err f) → IsBefore f
before_answer c ts text (run.Load t f) h P Q q = q
before_answer c ts text (run.Sql e) h P Q q = q
before_answer c ts text (run.Bind e) h P Q q = q
before_answer c ts text (run.Answer (answer.RowOverflow n)) h P Q q = q
before_answer c ts text (run.Answer answer.SumOutOfRange) h P Q q = q
before_answer c ts text (run.Answer answer.Memory) h P Q q = q
before_answer c ts text (run.Answer answer.Write) h P Q q = absurd h
before_answer c ts text run.Memory h P Q q = q

pub sink_unloaded : (t : ℕ) (f : LoadFault) (told : RunFault) (old : Bytes) (n : ℕ) (holds : Option Bytes) → told ≡ told_at t f → LeavesSink (Err told) old old n n holds holds
sink_unloaded t f told old n holds is = rw is (record { silent = before_load t f (n < n) (old ≡ old) refl; clean = tt; holds = grew-none old holds })

pub sink_replied : (c : List TableShape) (ts : List Columns) (text : Bytes) (answered : Result (List Row) RunFault) (r : Result (Unit {0}) RunFault) (old new : Bytes) (m n : ℕ) (held holds : Option Bytes)
    → AnswersText c ts text answered → Writes answered r old new m n → GrewAlike old new held holds → LeavesSink r old new m n held holds
sink_replied c ts text (Err f) r old new m n held holds a w grew = rw w.0 (record { silent = before_answer c ts text f a (m < n) (new ≡ old) w.1; clean = tt; holds = grew })
sink_replied c ts text (Ok rows) (Ok u) old new m n held holds a w grew = record { silent = tt; clean = w.1; holds = grew }
sink_replied c ts text (Ok rows) (Err f) old new m n held holds a w grew = rw w.0 (record { silent = w.1.1; clean = tt; holds = grew })

-- ---- the run

module _ {S : Type 0} (given : S → Bytes) (failures ends : S → ℕ) (known : S → Option Bytes) (c : List TableShape) (text : Bytes) (before after : List S) where
  abbrev files : List Bytes
  files = given_each (map given before) (map given after)

  abbrev Runs : Result (Unit {0}) RunFault → Bytes → Bytes → Type 0
  Runs r old new = RunsFrom given failures ends known c text before after r old new

  -- what is known of all bytes of the sources, if they are known
  abbrev Told : (List Bytes → Type 0) → Type 0
  Told P = (all : List Bytes) → map known before ≡ map Some all → P (given_each (map given before) all)

  pub runs_unloaded : (t : ℕ) (f : LoadFault) (told : RunFault) (old : Bytes) → told ≡ told_at t f → GrewEach (map given before) (map given after) → FailsAt c files t f
      → IfRead f (FailedAt c files (map failures before) (map failures after) t) → Told (λ all. FailsAt c all t f) → Runs (Err told) old old
  runs_unloaded t f told old is grows fails read known_fails = rw is (record {
    grows = grows;
    replies = unloaded c files text t f old fails;
    ended = none_loaded (RoseEach (map ends before) (map ends after)) t f;
    failed = read_at (FailedAt c files (map failures before) (map failures after)) t f read;
    told = λ all same. unloaded c (given_each (map given before) all) text t f old (known_fails all same);
  })

  module _ (ts : List Columns) (grows : GrewEach (map given before) (map given after)) (loads : loaded c files ≡ Ok ts) (ended : RoseEach (map ends before) (map ends after))
      (known_loads : Told (λ all. loaded c all ≡ Ok ts)) where
    -- what is replied to files of these tables, whether to those given or to all
    runs_loaded : (r : Result (Unit {0}) RunFault) (old new : Bytes) → ((all : List Bytes) → loaded c all ≡ Ok ts → Replies c all text r old new) → IfLoaded r (RoseEach (map ends before) (map ends after))
        → IfErr r (λ e. IfReadOf e (FailedAt c files (map failures before) (map failures after))) → Runs r old new
    runs_loaded r old new replies ended failed = record { grows = grows; replies = replies files loads; ended = ended; failed = failed; told = λ all same. replies (given_each (map given before) all) (known_loads all same) }

    runs_unanswered : (f : RunFault) (old : Bytes) → AnswersText c ts text (Err f) → Runs (Err f) old old
    runs_unanswered f old h = runs_loaded (Err f) old old (λ all is. unanswered c all text ts f old is h) (all_loaded (RoseEach (map ends before) (map ends after)) f ended)
        (no_read (FailedAt c files (map failures before) (map failures after)) c text ts f h)

    runs_unwritten : (rows : List Row) (old new : Bytes) → IsAnswered c ts text (Ok rows) → IsBeginning old new (text_of rows) → Runs (Err (run.Answer answer.Write)) old new
    runs_unwritten rows old new h began = runs_loaded (Err (run.Answer answer.Write)) old new (λ all is. (rows, answered_over c all text ts (Ok rows) is h, began)) ended tt

    runs_answered : (rows : List Row) (old new : Bytes) → IsAnswered c ts text (Ok rows) → new ≡ old ++ text_of rows → Runs (Ok tt) old new
    runs_answered rows old new h wrote = runs_loaded (Ok tt) old new (λ all is. (rows, answered_over c all text ts (Ok rows) is h, wrote)) ended tt

    pub runs_replied : (answered : Result (List Row) RunFault) (r : Result (Unit {0}) RunFault) (old new : Bytes) (m n : ℕ) → AnswersText c ts text answered → Writes answered r old new m n → Runs r old new
    runs_replied (Err f) r old new m n a w = rw (w.0, w.1) (runs_unanswered f old a)
    runs_replied (Ok rows) (Ok u) old new m n a w = runs_answered rows old new a w.0
    runs_replied (Ok rows) (Err f) old new m n a w = rw w.0 (runs_unwritten rows old new a w.1.0)

-- ---- over tables that were loaded

pub replied-over : (c : List TableShape) (files : List Bytes) (ts : List Columns) (text : Bytes) (answered : Result (List Row) RunFault) (r : Result (Unit {0}) RunFault) (old new : Bytes) (m n : ℕ) → loaded c files ≡ Ok ts → AnswersText c ts text answered
    → Writes answered r old new m n → Replies c files text r old new
replied-over c files ts text (Err f) r old new m n loads a w = rw (w.0, w.1) (unanswered c files text ts f old loads a)
replied-over c files ts text (Ok rows) (Ok u) old new m n loads a w = (rows, answered_over c files text ts (Ok rows) loads a, w.0)
replied-over c files ts text (Ok rows) (Err f) old new m n loads a w = rw w.0 (rows, answered_over c files text ts (Ok rows) loads a, w.1.0)
