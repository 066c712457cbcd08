-- The statements told of a source are those of the bytes that it gave, however it cuts these into pieces.
-- Source: own.
use Rattle.std.specs.Prelude.{◌≡◌, ◌<◌, ◌≤◌, ◌+◌, ◌^◌, ◌⊎◌, ℕ, Bool, true, false, List, [], ◌∷◌, ◌++◌, length, Option, Some, None, Result, Ok, Err}
use Rattle.ssb_records.specs.declared.source.Source.{Ghosts as Source}
use Rattle.ssb_records.specs.declared.source.SourceFault.{SourceFault}
use Rattle.ssb_tokens.specs.Statements.{statements_of}
use Rattle.ssb_statements.specs.declared.cutter.Statement.{Statement}
use Rattle.ssb_statements.specs.declared.cutter.Statement.TheVariants.{Text, TooLong}
use Rattle.ssb_statements.specs.declared.statements.Statements.{Statements}

-- the source, as the reads left it
abbrev pub source_of : {S : Type 0} → Statements S → S
source_of r = r.source

-- whether it met its end
abbrev pub has_ended : {S : Type 0} → Statements S → Bool
has_ended r = r.ended

-- the bytes that it gave and that belong to no statement told so far
abbrev pub ahead : {S : Type 0} → Statements S → List ℕ
ahead r = r.ahead

-- the bytes of the statement told last
abbrev pub text_of : {S : Type 0} → Statements S → List ℕ
text_of r = r.text

-- this is told of a statement, with its bytes where it has at most 65,536
abbrev pub IsTold : Statement → List ℕ → List ℕ → Type 0
IsTold Text text s = (text ≡ s) × (length s ≤ 65536)
IsTold TooLong text s = 65536 < length s

-- this holds whatever bytes come later; once the end was met, none comes
abbrev pub Whatever : Bool → (List ℕ → Type 0) → Type 0
Whatever true P = P []
Whatever false P = (more : List ℕ) → P more

-- a text has the first statement s to its end, and then the rest
abbrev pub IsCut : List ℕ → List ℕ → List ℕ → Type 0
IsCut text s rest = (more : List ℕ) → statements_of (text ++ more) ≡ s ∷ statements_of (rest ++ more)

-- the next statement was told: the first of the bytes ahead
pub record Tells {S : Type 0} (source : Source S) (t : Statement) (old : Statements S) (fresh : List ℕ) (new : Statements S) : Type 0 where
  pub statement : List ℕ
  pub told : IsTold t (text_of new) statement
  pub next : Whatever (has_ended new) (λ more. statements_of (ahead old ++ (fresh ++ more)) ≡ statement ∷ statements_of (ahead new ++ more))
  pub failures : source.failures (source_of new) ≡ source.failures (source_of old)

-- no statement was left, and none comes
pub record Ends {S : Type 0} (source : Source S) (old : Statements S) (fresh : List ℕ) (new : Statements S) : Type 0 where
  pub none : statements_of (ahead old ++ fresh) ≡ []
  pub rest : ahead new ≡ []
  pub ended : has_ended new ≡ true
  pub failures : source.failures (source_of new) ≡ source.failures (source_of old)

-- a read failed, or one statement goes on for 2 ^ 64 - 1 bytes: no byte is lost
pub record Breaks {S : Type 0} (source : Source S) (old : Statements S) (fresh : List ℕ) (new : Statements S) : Type 0 where
  pub failed : (source.failures (source_of old) < source.failures (source_of new)) ⊎ (2 ^ 64 ≤ length fresh + 1)
  pub kept : ahead new ≡ ahead old ++ fresh
  pub ended : has_ended new ≡ false

-- what `next` told
abbrev pub Answers : {S : Type 0} → Source S → Result (Option Statement) SourceFault → Statements S → List ℕ → Statements S → Type 0
Answers source (Ok (Some t)) old fresh new = Tells source t old fresh new
Answers source (Ok None) old fresh new = Ends source old fresh new
Answers source (Err e) old fresh new = Breaks source old fresh new

-- a call of `next`
pub record Gave {S : Type 0} (source : Source S) (old : Statements S) (result : Result (Option Statement) SourceFault) (new : Statements S) : Type 0 where
  -- the source gave these bytes
  pub fresh : List ℕ
  pub given : source.given (source_of new) ≡ source.given (source_of old) ++ fresh
  pub answer : Answers source result old fresh new
  -- a statement that is ahead to its end is told with no read
  pub prompt : (s rest : List ℕ) → IsCut (ahead old) s rest → source_of new ≡ source_of old
  -- the source has met its end where the reader says so, and is not read again then
  pub over : has_ended new ≡ true → 0 < source.ends (source_of new)
  pub quiet : has_ended old ≡ true → (source_of new ≡ source_of old) × (fresh ≡ []) × (has_ended new ≡ true)
  pub forth : source.ends (source_of old) ≤ source.ends (source_of new)
  pub whole : source.whole (source_of new) ≡ source.whole (source_of old)
