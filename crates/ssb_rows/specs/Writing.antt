-- What a call that writes did, to a sink and to the page before it.
-- For the contracts of what puts bytes behind those that wait.
use Rattle.std.specs.Prelude.{◌≡◌, ◌<◌, ◌++◌, ◌∷◌, [], ℕ, List, Option, Result, Ok, Err}
use Rattle.ssb_rows.specs.Taking.{GrewAlike, IsBeginning}

-- the bytes taken, those that wait, the count of failures, and what the sink holds where that is known
pub record Desk : Type 0 where
  pub taken : List ℕ
  pub waits : List ℕ
  pub failures : ℕ
  pub contents : Option (List ℕ)

abbrev pub desk : List ℕ → List ℕ → ℕ → Option (List ℕ) → Desk
desk taken waits failures contents = record { taken = taken; waits = waits; failures = failures; contents = contents }

-- the text was taken but for what is left of it
pub record IsPut (old new text left : List ℕ) : Type 0 where
  pub gone : List ℕ
  pub split : text ≡ gone ++ left
  pub taken : new ≡ old ++ gone

-- the bytes were put behind those that waited, with no failure
pub record Puts (old new : Desk) (bytes : List ℕ) : Type 0 where
  pub put : IsPut old.taken new.taken (old.waits ++ bytes) new.waits
  pub clean : new.failures ≡ old.failures
  pub grew : GrewAlike old.taken new.taken old.contents new.contents

-- a write failed, and what went out is a beginning of the bytes that waited and of those that were put
pub record Breaks (old new : Desk) (bytes : List ℕ) : Type 0 where
  pub began : IsBeginning old.taken new.taken (old.waits ++ bytes)
  pub failed : old.failures < new.failures
  pub grew : GrewAlike old.taken new.taken old.contents new.contents

-- what putting bytes does: all are put, or a write failed
abbrev pub Writes : {E : Type 0} → Result (Unit {0}) E → Desk → Desk → List ℕ → Type 0
Writes (Ok u) old new bytes = Puts old new bytes
Writes (Err e) old new bytes = Breaks old new bytes

-- fields, each behind a bar
abbrev pub barred : List (List ℕ) → List ℕ
barred [] = []
barred (x ∷ xs) = (124 ∷ x) ++ barred xs
