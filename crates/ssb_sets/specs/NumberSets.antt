-- Which numbers a set has, by its cuts: from each cut on, the answer is the other one.
-- Source: own.
use Rattle.std.specs.Prelude.{ℤ, Bool, not, if◌then◌else◌, int_le, List, fold}
use Rattle.ssb_sets.specs.declared.set.NumberSet.{NumberSet}

-- the answer for a number, once one more cut is counted in: the other one, if the number is not below the cut
abbrev pub turned_at : ℤ → Bool → ℤ → Bool
turned_at n said cut = if int_le cut n then not said else said

-- what cuts say of a number, by the answer for those below all of them
abbrev pub said_by : Bool → List ℤ → ℤ → Bool
said_by first cuts n = fold (turned_at n) first cuts

-- whether a set has a number
abbrev pub has : NumberSet → ℤ → Bool
has s n = said_by s.first s.cuts.items n
