-- The rows whose numbers pass what is asked of them.
-- Source: own.
use Rattle.std.specs.Prelude.{ℕ, ℤ, pos, Bool, List, slice_index_or}

-- whether the number of a row passes
abbrev pub passes_at : (ℤ → Bool) → List ℤ → ℕ → Bool
passes_at p ns r = p (slice_index_or ns r (pos 0))
