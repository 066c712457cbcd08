-- How a list of numbers is kept in few bytes.
-- For the contracts inside this crate.
use Rattle.std.specs.Prelude.{ℕ, ℤ, List, ⊤, pos, neg_ℤ, ◌≤ℤ◌, ◌<ℤ◌}
use Rattle.ssb_packed.specs.declared.numbers.Kept.{Kept}
use Rattle.ssb_packed.specs.declared.numbers.Kept.TheVariants as kept
use Rattle.ssb_packed.specs.declared.numbers.Numbers.TheInside.{Inside}

abbrev pub numbers_of : Kept → List ℤ
numbers_of (kept.One v) = v.items
numbers_of (kept.Two v) = v.items
numbers_of (kept.Four v) = v.items
numbers_of (kept.Eight v) = v.items

-- how often they can be widened
abbrev pub left : Kept → ℕ
left (kept.One v) = 3
left (kept.Two v) = 2
left (kept.Four v) = 1
left (kept.Eight v) = 0

-- a number fits in so many bytes
abbrev pub Fits : Kept → ℤ → Type 0
Fits (kept.One v) n = (neg_ℤ (pos 128) ≤ℤ n) × (n <ℤ pos 128)
Fits (kept.Two v) n = (neg_ℤ (pos 32768) ≤ℤ n) × (n <ℤ pos 32768)
Fits (kept.Four v) n = (neg_ℤ (pos 2147483648) ≤ℤ n) × (n <ℤ pos 2147483648)
Fits (kept.Eight v) n = ⊤

abbrev pub listed : Inside → List ℤ
listed n = numbers_of n.kept
