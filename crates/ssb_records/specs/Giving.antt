-- What a read of a source did, and what a source gave.
-- Source: own, in the terms of std's `Read`.
use Rattle.std.specs.Prelude.{◌≡◌, ◌++◌, ◌<◌, [], ℕ, List, length, take, drop, Result, Ok, Err, Option, None, Some, ⊤, ◌==◌, ◌&&◌, nat_lt, if◌then◌else◌}

-- the bytes that a read gave
abbrev pub given_of : {E : Type 0} → Result ℕ E → List ℕ → List ℕ
given_of (Ok n) room = take n room
given_of (Err e) room = []

-- 1 for a read that answered an error
abbrev pub failures_of : {E : Type 0} → Result ℕ E → ℕ
failures_of (Ok n) = 0
failures_of (Err e) = 1

-- 1 for a read that gave no byte into some room
abbrev pub ends_at : ℕ → List ℕ → ℕ
ends_at n room = if (n == 0) && nat_lt 0 (length room) then 1 else 0

abbrev pub ends_of : {E : Type 0} → Result ℕ E → List ℕ → ℕ
ends_of (Ok n) room = ends_at n room
ends_of (Err e) room = 0

-- of all bytes, those behind the ones that were given before
abbrev pub given_since : List ℕ → List ℕ → List ℕ
given_since before all = drop (length before) all

-- of a reader's bytes, where they are known, those given and those left; none is left once its end was met
abbrev pub Leaves : Option (List ℕ) → Option (List ℕ) → List ℕ → ℕ → Type 0
Leaves None now given ends = ⊤
Leaves (Some xs) None given ends = ⊥
Leaves (Some xs) (Some ys) given ends = (xs ≡ given ++ ys) × (0 < ends → ys ≡ [])
