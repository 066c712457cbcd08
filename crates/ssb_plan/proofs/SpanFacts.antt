-- A span covers the numbers that it is of.
use Rattle.std.proofs.Common.{◌≡◌, ℕ, zero, suc, ℤ, List, [], ◌∷◌, Some, fold, subst, arith}
use Rattle.std.specs.Prelude.{◌≤ℤ◌, slice_get}
use Rattle.std.proofs.lemmas.Int.{clamps, ints}
use Rattle.std.proofs.lemmas.Option.{same_Some}
use Rattle.ssb_cells.specs.Cell.{Cell, null, number, text}
use Rattle.ssb_plan.specs.Spans.{no_span, span_of, with_value}
use Rattle.ssb_plan.specs.declared.index.Span.{Span}

-- a span covers another
pub record Covers (s t : Span) : Type 0 where
  pub least : t.least ≤ℤ s.least
  pub greatest : s.greatest ≤ℤ t.greatest

one-covers : (s : Span) (v : Cell) → Covers s (with_value s v)
one-covers s null = record { least = omega (arith, ints); greatest = omega (arith, ints) }
one-covers s (number n) = record { least = omega (arith, ints, clamps); greatest = omega (arith, ints, clamps) }
one-covers s (text t) = record { least = omega (arith, ints); greatest = omega (arith, ints) }

all-cover : (s : Span) (vs : List Cell) → Covers s (fold with_value s vs)
all-cover s [] = record { least = omega (arith, ints); greatest = omega (arith, ints) }
all-cover s (v ∷ vs) =
    let one = one-covers s v in
    let rest = all-cover (with_value s v) vs in
    record { least = omega (arith, ints, one.least, rest.least); greatest = omega (arith, ints, one.greatest, rest.greatest) }

-- a number is in a span
pub record IsInSpan (s : Span) (n : ℤ) : Type 0 where
  pub above : s.least ≤ℤ n
  pub below : n ≤ℤ s.greatest

covered : (s t : Span) (n : ℤ) → Covers (with_value s (number n)) t → IsInSpan t n
covered s t n c = record { above = omega (arith, ints, clamps, c.least); below = omega (arith, ints, clamps, c.greatest) }

in-fold : (s : Span) (vs : List Cell) (i : ℕ) (n : ℤ) → slice_get vs i ≡ Some (number n) → IsInSpan (fold with_value s vs) n
in-fold s [] i n e = cc
in-fold s (v ∷ vs) zero n e = covered s (fold with_value (with_value s v) vs) n (subst (λ x. Covers (with_value s x) (fold with_value (with_value s v) vs)) (same_Some v (number n) e) (all-cover (with_value s v) vs))
in-fold s (v ∷ vs) (suc i) n e = in-fold (with_value s v) vs i n e

pub in-span : (vs : List Cell) (i : ℕ) (n : ℤ) → slice_get vs i ≡ Some (number n) → IsInSpan (span_of vs) n
in-span vs i n e = in-fold no_span vs i n e
