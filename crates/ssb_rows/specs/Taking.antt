-- What a write did.
-- Source: own, in the terms of std's `Write`.
use Rattle.std.specs.Prelude.{◌≡◌, ◌++◌, [], ℕ, List, Option, length, take, Result, Ok, Err, ◌==◌, ◌&&◌, nat_lt, if◌then◌else◌}
use Rattle.std.specs.Io.KnownBytes.{Appends}

-- the bytes that a write took
abbrev pub taken_of : {E : Type 0} → Result ℕ E → List ℕ → List ℕ
taken_of (Ok n) bytes = take n bytes
taken_of (Err e) bytes = []

-- 1 where a write was handed some bytes and took none
abbrev pub refusals : ℕ → List ℕ → ℕ
refusals n bytes = if (n == 0) && nat_lt 0 (length bytes) then 1 else 0

-- 1 where a write failed: by an error, or by taking none of some bytes
abbrev pub write_failures : {E : Type 0} → Result ℕ E → List ℕ → ℕ
write_failures (Ok n) bytes = refusals n bytes
write_failures (Err e) bytes = 1

-- what was taken since is a beginning of the text
pub record IsBeginning (old new text : List ℕ) : Type 0 where
  pub gone : List ℕ
  pub left : List ℕ
  pub split : text ≡ gone ++ left
  pub taken : new ≡ old ++ gone

-- what a sink took, and what it holds where that is known, have grown by the same bytes
pub record GrewAlike (taken_old taken_new : List ℕ) (contents_old contents_new : Option (List ℕ)) : Type 0 where
  pub gone : List ℕ
  pub taken : taken_new ≡ taken_old ++ gone
  pub contents : Appends contents_old contents_new gone
